-- What the code's objects represent.
use Rattle.std.specs.Prelude.{ℕ, List}
use Rattle.ash_host.specs.ElementTags.{element_of}
use Rattle.ash_host.specs.Objects.{Plain, Script, Array, Host}
use Rattle.ash_image.specs.declared.stored.StoredBody.{StoredBody}
use Rattle.ash_image.specs.declared.stored.StoredBody.TheVariants as bodies
use Rattle.ash_image.specs.declared.stored.StoredScript.{StoredScript}
use Rattle.ash_image.specs.declared.stored.StoredHost.{StoredHost}
use Rattle.ash_image.specs.declared.stored.StoredArray.{StoredArray}
use Rattle.ash_image.specs.declared.parts.BodyParts.{BodyParts}
use Rattle.ash_image.specs.declared.parts.BodyParts.TheVariants as parts

-- what was read

abbrev pub script_of : StoredScript → Plain ℕ
script_of s = Script s.owner s.class s.fields.items

abbrev pub service_of : StoredHost → ℕ × List ℕ
service_of h = (h.kind, h.state.items)

abbrev pub array_of : StoredArray → Plain ℕ
array_of a = Array (element_of a.element) a.elements.items

abbrev pub plain_of : StoredBody → Plain ℕ
plain_of (bodies.Script s) = script_of s
plain_of (bodies.Host h) = Host h.kind h.state.items
plain_of (bodies.Array a) = array_of a

-- what is written, by its parts

abbrev pub plain_in : BodyParts → Plain ℕ
plain_in (parts.Script s) = Script s.owner s.class s.fields.now
plain_in (parts.Host h) = Host h.kind h.state.now
plain_in (parts.Array a) = Array (element_of a.element) a.elements.now
