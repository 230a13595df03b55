-- A registration that was judged by what was read is judged by what the text means.
use Rattle.std.proofs.Common.{◌≡◌, ℕ, inl, Bool, true, false, List, Option, Result, Err, refl, subst, sym}
use Rattle.ash_tree.specs.Tree.{Declaration}
use Rattle.ash_registry.specs.declared.fault.RegistryFault.{RegistryFault}
use Rattle.ash_registrations.specs.Registrations.{Registration}
use Rattle.ash_registry.specs.Refusals.{cause, RegisteredIf}
use Rattle.ash_registry.specs.Texts.{NameClass, HasNameClass, IsDeclarationOf}
use Rattle.ash_registry.proofs.Meanings.{one_class, one_declared}

pub skip_cause : {A : Type 0} (test : Bool) (first : RegistryFault) (refusal : Option RegistryFault)
    (registration : List Registration)
    (answered : Result A RegistryFault) (old new : List Registration) → test ≡ false
    → RegisteredIf refusal registration answered old new → RegisteredIf (cause test first refusal) registration answered old new
skip_cause {A} test first refusal registration answered old new e h =
    subst (λ b. RegisteredIf {A = A} (cause b first refusal) registration answered old new) (sym e) h

pub for_declared : {A : Type 0} (text : List ℕ) (test : Bool) (first : RegistryFault)
    (refusal : Option Declaration → Option RegistryFault) (registration : Option Declaration → List Registration)
    (answered : Result A RegistryFault) (old new : List Registration) (d : Option Declaration) → IsDeclarationOf text d
    → test ≡ false → RegisteredIf (refusal d) (registration d) answered old new → (e : Option Declaration) → IsDeclarationOf text e
    → RegisteredIf (cause test first (refusal e)) (registration e) answered old new
for_declared {A} text test first refusal registration answered old new d is passed h e says =
    subst (λ (x : Option Declaration). RegisteredIf {A = A} (cause test first (refusal x)) (registration x) answered old new)
    (one_declared text d e is says) (skip_cause test first (refusal d) (registration d) answered old new passed h)

pub for_name_class : {A : Type 0} (text : List ℕ) (refusal : NameClass → Option RegistryFault)
    (registration : List Registration)
    (answered : Result A RegistryFault) (old new : List Registration) (s : NameClass) → HasNameClass text s
    → RegisteredIf (refusal s) registration answered old new → (t : NameClass) → HasNameClass text t
    → RegisteredIf (refusal t) registration answered old new
for_name_class {A} text refusal registration answered old new s is h t says =
    subst (λ (x : NameClass). RegisteredIf {A = A} (refusal x) registration answered old new) (one_class text s t is says) h

pub refused_by_cause : {A : Type 0} (test : Bool) (fault : RegistryFault) (later : Option RegistryFault)
    (registration registrations : List Registration) → test ≡ true
    → RegisteredIf {A = A} (cause test fault later) registration (Err fault) registrations registrations
refused_by_cause {A} test fault later registration registrations e =
    subst (λ b. RegisteredIf {A = A} (cause b fault later) registration (Err fault) registrations registrations) (sym e)
    (record { accepted = tt; added = tt; refused = inl refl; unchanged = refl })
