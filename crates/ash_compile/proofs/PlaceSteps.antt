-- The instructions that read and write at a place do what is left of it.
use Rattle.std.proofs.Common.{◌≡◌, ◌<◌, ℕ, ◌+◌, List, length, refl, sym, ap, ◌∙◌, subst, arith}
use Rattle.std.proofs.Common.{true, false, Bool, cond, nat_lt}
use Rattle.std.specs.Prelude.{Some, None, slice_index_or, slice_set, if◌then◌else◌}
use Rattle.std.proofs.lemmas.Bool.{and_from}
use Rattle.std.proofs.lemmas.List.{length-take-le}
use Rattle.ash_host.specs.declared.event.Target.TheVariants as targets
use Rattle.ash_host.specs.declared.word.Word.{Word}
use Rattle.ash_host.specs.declared.word.Word.TheVariants as words
use Rattle.ash_host.specs.Objects.{handle}
use Rattle.ash_typed.specs.declared.types.VarType.{VarType}
use Rattle.ash_typed.specs.declared.types.ObjectType.{ObjectType}
use Rattle.ash_typed.specs.declared.tree.operations.ObjectMember.{ObjectMember}
use Rattle.ash_typed.specs.Signatures.{ModuleSignatures}
use Rattle.ash_typed.specs.SoundOperations.{IsSoundMember}
use Rattle.ash_meaning.specs.declared.exception.Exception.TheVariants.{IndexOutOfBounds}
use Rattle.ash_meaning.specs.Activity.{Activity}
use Rattle.ash_meaning.specs.Runs.{Progress, Done, Ended, NoStep, onward, give, demand, ◌>>=◌}
use Rattle.ash_meaning.specs.Releases.{give_held}
use Rattle.ash_meaning.specs.ObjectSteps.{object_of, words_in}
use Rattle.ash_meaning.specs.ArraySteps.{natural_of, index_in}
use Rattle.ash_meaning.specs.HostSteps.{get_property, set_property}
use Rattle.ash_meaning.specs.Locations.{Local, Global, Part, Property, read, write}
use Rattle.ash_meaning.specs.ExpressionMeaning.{element_at}
use Rattle.ash_soundness.specs.WellFormed.{Shape, shape_at, IsReference, to_nothing, to_object, declared}
use Rattle.ash_soundness.proofs.Calls.{handle_of}
use Rattle.ash_soundness.proofs.Constructions.{lt_from}
use Rattle.ash_soundness.proofs.Locations.{in_element}
use Rattle.ash_run_steps.specs.Guarded.{Guarded, onward as guarded_onward, give as guarded_give}
use Rattle.ash_run_steps.specs.GuardedSteps.{is_alive, has_local, write_local}
use Rattle.ash_run_steps.specs.HostGuards as guards
use Rattle.ash_run_steps.specs.HostGuards.{is_there}
use Rattle.ash_code.specs.Controls.{Window, control, with_word}
use Rattle.ash_code.specs.Steps.{has_global, has_part, read_part, write_part, give_held as guarded_give_held}
use Rattle.ash_code.specs.Performing.{Next, GoesOn, perform, put, go}
use Rattle.ash_compile.specs.declared.places.Spot.{Spot}
use Rattle.ash_compile.specs.declared.places.Spot.TheVariants as spots
use Rattle.ash_compile.specs.Stretches.{with_slots, Fits}
use Rattle.ash_compile.specs.Emission.{Scene, IsScene}
use Rattle.ash_compile.specs.Places.{located, reading, writing, Bears, local, global, field, property, element}
use Rattle.ash_compile.proofs.Phrases.{put_held, none_held, local_in}
use Rattle.ash_compile.proofs.Typed.{HasNoHandle}
use Rattle.ash_compile.proofs.PlaceGuards.{lt_true, Well, member_located, local_within, local_none, part_there}
use Rattle.ash_compile.proofs.PlaceGuards.{global_there, host_there, global_alive, part_alive, property_none}

-- parts of objects that are there

read_there : (number place : ℕ) (b : Activity) (next : Word → Guarded Next) → has_part number place b ≡ true
    → is_alive (slice_index_or (words_in number b.world) place words.Null) b ≡ true
    → guarded_onward (guarded_onward (read_part number place b) guarded_give_held) next
    ≡ guarded_onward (Some (give_held (slice_index_or (words_in number b.world) place words.Null) b)) next
read_there number place b next has alive =
    ap (λ (t : Bool). guarded_onward (guarded_onward
    (cond t (Some (Done (slice_index_or (words_in number b.world) place words.Null) b)) None) guarded_give_held) next)
    has
    ∙ put_held (slice_index_or (words_in number b.world) place words.Null) b next alive

write_there : (number place : ℕ) (word : Word) (b : Activity) (next : Unit {0} → Guarded Next)
    → has_part number place b ≡ true
    → is_alive word b ≡ true
    → guarded_onward (write_part number place word b) next ≡ guarded_onward (Some (write (Part number place) word b))
    next
write_there number place word b next has alive =
    ap (λ (t : Bool). guarded_onward (cond t (Some (write (Part number place) word b)) None) next)
    (and_from (has_part number place b) (is_alive word b) has alive)

-- a value that is no handle
never_held : (p : Progress Word) → ((v : Word) (d : Activity) → p ≡ Done v d → handle v ≡ None) → onward p give_held ≡ p
never_held (Done v d) none = none_held v d (none v d refl)
never_held (Ended e d) none = refl
never_held NoStep none = refl

-- steps on the object of a word

field_read : (b : Activity) (place : ℕ) {x : Word} (next : Word → Guarded Next) {Is : Shape → Type 0}
    → IsReference (b.world).objects Is x
    → ((number : ℕ) (shape : Shape) → shape_at number (b.world).objects ≡ Some shape → Is shape
    → (has_part number place b ≡ true) × (is_alive (slice_index_or (words_in number b.world) place words.Null) b
    ≡ true))
    → guarded_onward (guarded_onward (guarded_onward (Some (object_of x b)) (λ number. read_part number place))
    guarded_give_held) next
    ≡ guarded_onward (Some (onward (onward (object_of x b) (λ number. give (Part number place)))
    (λ l. read l >>= give_held))) next
field_read b place next to_nothing there = refl
field_read b place next (to_object {number} {shape} at is) there =
    read_there number place b next (there number shape at is).0 (there number shape at is).1

field_write : (b : Activity) (place : ℕ) (word : Word) {x : Word} (next : Unit {0} → Guarded Next) {Is : Shape → Type 0}
    → IsReference (b.world).objects Is x
    → ((number : ℕ) (shape : Shape) → shape_at number (b.world).objects ≡ Some shape → Is shape
    → has_part number place b ≡ true)
    → is_alive word b ≡ true
    → guarded_onward (guarded_onward (Some (object_of x b)) (λ number. write_part number place word)) next
    ≡ guarded_onward (Some (onward (onward (object_of x b) (λ number. give (Part number place))) (λ l. write l word)))
    next
field_write b place word next to_nothing there alive = refl
field_write b place word next (to_object {number} {shape} at is) there alive =
    write_there number place word b next (there number shape at is) alive

property_read : (b : Activity) (id : ℕ) (of : VarType) {x : Word} (next : Word → Guarded Next) {Is : Shape → Type 0}
    → IsReference (b.world).objects Is x
    → ((number : ℕ) (shape : Shape) → shape_at number (b.world).objects ≡ Some shape → Is shape
    → is_there (targets.Object number) b ≡ true)
    → ((number : ℕ) (v : Word) (d : Activity) → get_property number id of b ≡ Done v d → handle v ≡ None)
    → guarded_onward (guarded_onward (Some (object_of x b)) (λ number. guards.get_property number id of)) next
    ≡ guarded_onward (Some (onward (onward (object_of x b) (λ number. give (Property number id of)))
    (λ l. read l >>= give_held))) next
property_read b id of next to_nothing there none = refl
property_read b id of next (to_object {number} {shape} at is) there none =
    ap (λ (t : Bool). guarded_onward (cond t (Some (get_property number id of b)) None) next) (there number shape at is)
    ∙ ap (λ (p : Progress Word). guarded_onward (Some p) next) (sym (never_held (get_property number id of b)
    (none number)))

property_write : (b : Activity) (id : ℕ) (of : VarType) (word : Word) {x : Word} (next : Unit {0} → Guarded Next)
    {Is : Shape → Type 0}
    → IsReference (b.world).objects Is x
    → ((number : ℕ) (shape : Shape) → shape_at number (b.world).objects ≡ Some shape → Is shape
    → is_there (targets.Object number) b ≡ true)
    → guarded_onward (guarded_onward (Some (object_of x b)) (λ number. guards.set_property number id word)) next
    ≡ guarded_onward (Some (onward (onward (object_of x b) (λ number. give (Property number id of)))
    (λ l. write l word))) next
property_write b id of word next to_nothing there = refl
property_write b id of word next (to_object {number} {shape} at is) there =
    ap (λ (t : Bool). guarded_onward (cond t (Some (set_property number id word b)) None) next)
    (there number shape at is)

index_read : (b : Activity) (number k : ℕ) (next : Word → Guarded Next) (t : Bool) → has_part number k b ≡ t
    → (has_part number k b ≡ true → is_alive (slice_index_or (words_in number b.world) k words.Null) b ≡ true)
    → guarded_onward (Some (onward (demand t IndexOutOfBounds b) (λ _. give k)))
    (λ place c. guarded_onward (guarded_onward (read_part number place c) guarded_give_held) next)
    ≡ guarded_onward (Some (onward (onward (onward (demand t IndexOutOfBounds b) (λ _. give k))
    (λ place. give (Part number place)))
    (λ l. read l >>= give_held))) next
index_read b number k next true has alive = read_there number k b next has (alive has)
index_read b number k next false has alive = refl

element_read : (b : Activity) {x : Word} (i : Word) (next : Word → Guarded Next) {Is : Shape → Type 0}
    → IsReference (b.world).objects Is x
    → ((number : ℕ) (shape : Shape) → shape_at number (b.world).objects ≡ Some shape → Is shape → (k : ℕ)
    → has_part number k b ≡ true → is_alive (slice_index_or (words_in number b.world) k words.Null) b ≡ true)
    → guarded_onward (Some (object_of x b)) (λ number d. guarded_onward (Some (index_in number i d))
    (λ place c. guarded_onward (guarded_onward (read_part number place c) guarded_give_held) next))
    ≡ guarded_onward (Some (onward (element_at x i b) (λ l. read l >>= give_held))) next
element_read b i next to_nothing there = refl
element_read b i next (to_object {number} {shape} at is) there =
    index_read b number (natural_of i) next (nat_lt (natural_of i) (length (words_in number b.world))) refl
    (there number shape at is (natural_of i))

index_write : (b : Activity) (number k : ℕ) (word : Word) (next : Unit {0} → Guarded Next) (t : Bool)
    → has_part number k b ≡ t
    → is_alive word b ≡ true
    → guarded_onward (Some (onward (demand t IndexOutOfBounds b) (λ _. give k)))
    (λ place c. guarded_onward (write_part number place word c) next)
    ≡ guarded_onward (Some (onward (onward (onward (demand t IndexOutOfBounds b) (λ _. give k))
    (λ place. give (Part number place)))
    (λ l. write l word))) next
index_write b number k word next true has alive = write_there number k word b next has alive
index_write b number k word next false has alive = refl

element_write : (b : Activity) {x : Word} (i word : Word) (next : Unit {0} → Guarded Next) {Is : Shape → Type 0}
    → IsReference (b.world).objects Is x → is_alive word b ≡ true
    → guarded_onward (Some (object_of x b)) (λ number d. guarded_onward (Some (index_in number i d))
    (λ place c. guarded_onward (write_part number place word c) next))
    ≡ guarded_onward (Some (onward (element_at x i b) (λ l. write l word))) next
element_write b i word next to_nothing alive = refl
element_write b i word next (to_object {number} at is) alive =
    index_write b number (natural_of i) word next (nat_lt (natural_of i) (length (words_in number b.world))) refl alive

-- slots after a write

-- A local is written in its slot.
abbrev pub slots_after : Spot → Word → List Word → List Word
slots_after (spots.Local slot) word ws = slice_set ws slot word
slots_after _ word ws = ws

pub locals_below : (w : Window) (b : Activity) (n : ℕ) → Fits w b → n < length (b.frame).locals → n < w.count
locals_below w b n fits low =
    omega (arith, low, ap length fits.locals, length-take-le w.count w.slots fits.within)

-- instructions

module _ (s : Scene) where
  declared_member : {o : ObjectType} {held : ObjectMember} {of : VarType} → IsScene s
      → IsSoundMember (s.env).signatures o held of → IsSoundMember (declared s.context) o held of
  declared_member {o} {held} {of} scene m = subst (λ (x : ModuleSignatures). IsSoundMember x o held of) scene.declares m

  -- What is read is held. A local that is read is no handle.
  pub reads : (w : Window) (b : Activity) (spot : Spot) (of : VarType) (at to : ℕ) → IsScene s → Well s b → Fits w b
      → Bears s b w.slots spot of
      → ((n : ℕ) → spot ≡ spots.Local n → HasNoHandle of)
      → perform s.setting (reading spot to) (control s.function at w) b
      ≡ guarded_onward (Some (onward (located spot w.slots b) (λ l. read l >>= give_held)))
      (put to (control s.function at w))
  reads w b (spots.Local n) of at to scene well fits (local is) none =
      ap (λ (x : Word). put to (control s.function at w) x b) (local_in w b n fits (local_within s n of b well is))
      ∙ sym (ap (λ (p : Progress Word). guarded_onward (Some p) (put to (control s.function at w)))
      (none_held (slice_index_or (b.frame).locals n words.Null) b (local_none s n of b scene well is (none n refl))))
  reads w b (spots.Global n) of at to scene well fits (global is) none =
      put_held (slice_index_or (b.world).globals n words.Null) b (put to (control s.function at w))
      (global_alive s n of b scene well is)
  reads w b (spots.Field object place) of at to scene well fits (field m carried) none =
      field_read b place (put to (control s.function at w)) (handle_of carried.value) (λ number shape there is.
      let located = member_located number shape (declared_member scene m) there is in
      (part_there s number place of b scene well located, part_alive s number place of b scene well located))
  reads w b (spots.Property object id of) _ at to scene well fits (property {kind = kind} m carried) none =
      property_read b id of (put to (control s.function at w)) (handle_of carried.value)
      (λ number shape there is. host_there number kind shape b there is)
      (λ number v d ran. property_none s kind number id of b d v scene well (declared_member scene m) ran)
  reads w b (spots.Element array index) of at to scene well fits (element carried) none =
      element_read b (slice_index_or w.slots index words.Null) (put to (control s.function at w))
      (handle_of carried.value)
      (λ number shape there is k has. part_alive s number k of b scene well
      (in_element is there (lt_from _ _ has) refl))

  -- What is written is alive.
  writes_at : (w : Window) (b : Activity) (spot : Spot) (of : VarType) (at from : ℕ) → IsScene s → Well s b → Fits w b
      → Bears s b w.slots spot of
      → is_alive (slice_index_or w.slots from words.Null) b ≡ true
      → perform s.setting (writing spot from) (control s.function at w) b
      ≡ guarded_onward (Some (onward (located spot w.slots b) (λ l. write l (slice_index_or w.slots from words.Null))))
      (λ _ d. Some (Done (GoesOn (control s.function (at + 1)
      (with_slots (slots_after spot (slice_index_or w.slots from words.Null) w.slots) w))) d))
  writes_at w b (spots.Local n) of at from scene well fits (local is) alive =
      let word = slice_index_or w.slots from words.Null in
      let there = local_within s n of b well is in
      ap (λ (t : Bool). guarded_onward ((if t then write_local n word else guarded_give tt) b)
      (λ _. go (with_word n word (control s.function at w)))) (lt_true n w.count (locals_below w b n fits there))
      ∙ ap (λ (t : Bool). guarded_onward (cond t (Some (write (Local n) word b)) None)
      (λ _. go (with_word n word (control s.function at w))))
      (and_from (has_local n b) (is_alive word b) (lt_true n (length (b.frame).locals) there) alive)
  writes_at w b (spots.Global n) of at from scene well fits (global is) alive =
      let word = slice_index_or w.slots from words.Null in
      ap (λ (t : Bool). guarded_onward (cond t (Some (write (Global n) word b)) None)
      (λ _. go (control s.function at w)))
      (and_from (has_global n b) (is_alive word b) (global_there s n of b scene well is) alive)
  writes_at w b (spots.Field object place) of at from scene well fits (field m carried) alive =
      field_write b place (slice_index_or w.slots from words.Null) (λ _. go (control s.function at w))
      (handle_of carried.value)
      (λ number shape there is.
      part_there s number place of b scene well (member_located number shape (declared_member scene m) there is)) alive
  writes_at w b (spots.Property object id of) _ at from scene well fits (property {kind = kind} m carried) alive =
      property_write b id of (slice_index_or w.slots from words.Null) (λ _. go (control s.function at w))
      (handle_of carried.value)
      (λ number shape there is. host_there number kind shape b there is)
  writes_at w b (spots.Element array index) of at from scene well fits (element carried) alive =
      element_write b (slice_index_or w.slots index words.Null) (slice_index_or w.slots from words.Null)
      (λ _. go (control s.function at w)) (handle_of carried.value) alive

  pub writes : (w : Window) (b : Activity) (spot : Spot) (of : VarType) (at from : ℕ) (word : Word) → IsScene s
      → Well s b → Fits w b
      → Bears s b w.slots spot of
      → slice_index_or w.slots from words.Null ≡ word → is_alive word b ≡ true
      → perform s.setting (writing spot from) (control s.function at w) b
      ≡ guarded_onward (Some (onward (located spot w.slots b) (λ l. write l word)))
      (λ _ d. Some (Done (GoesOn (control s.function (at + 1) (with_slots (slots_after spot word w.slots) w))) d))
  writes w b spot of at from word scene well fits bears is alive =
      subst (λ (x : Word). perform s.setting (writing spot from) (control s.function at w) b
      ≡ guarded_onward (Some (onward (located spot w.slots b) (λ l. write l x)))
      (λ _ d. Some (Done (GoesOn (control s.function (at + 1) (with_slots (slots_after spot x w.slots) w))) d))) is
      (writes_at w b spot of at from scene well fits bears (subst (λ (x : Word). is_alive x b ≡ true) (sym is) alive))
