-- What reading and writing at a place leaves of the locals of the frame.
use Rattle.std.proofs.Common.{◌≡◌, ◌<◌, ℕ, List, take, length, refl, sym, ap, ◌∙◌, true, false, Bool, nat_lt}
use Rattle.std.specs.Prelude.{Some, None, slice_index_or, slice_set}
use Rattle.std.proofs.Math.Seq.{take-set-lt}
use Rattle.ash_host.specs.declared.word.Word.{Word}
use Rattle.ash_host.specs.declared.word.Word.TheVariants as words
use Rattle.ash_host.specs.declared.event.Target.TheVariants as targets
use Rattle.ash_host.specs.Calls.{Get, Set}
use Rattle.ash_typed.specs.declared.types.VarType.{VarType}
use Rattle.ash_meaning.specs.declared.exception.Exception.TheVariants.{IndexOutOfBounds}
use Rattle.ash_meaning.specs.Activity.{Activity}
use Rattle.ash_meaning.specs.Runs.{Progress, Done, onward, give, demand, ◌>>=◌}
use Rattle.ash_meaning.specs.Releases.{give_held}
use Rattle.ash_meaning.specs.ObjectSteps.{object_of, words_in}
use Rattle.ash_meaning.specs.ArraySteps.{natural_of, index_in}
use Rattle.ash_meaning.specs.HostSteps.{call_host, accept}
use Rattle.ash_meaning.specs.Locations.{Location, Local, Global, Part, Property, read, write}
use Rattle.ash_compile.specs.declared.places.Spot.{Spot}
use Rattle.ash_compile.specs.declared.places.Spot.TheVariants as spots
use Rattle.ash_compile.specs.Places.{located}
use Rattle.ash_compile.proofs.Phrases.{grouped}
use Rattle.ash_compile.proofs.KeptLocals.{locals_after, KeepsLocals, done_keeps, keeps_then, keeps_give}
use Rattle.ash_compile.proofs.KeptLocals.{keeps_give_held, keeps_call_host, keeps_accept}
use Rattle.ash_compile.proofs.PlaceSteps.{slots_after}

-- what is left of a place

keeps_object : (x : Word) → KeepsLocals (object_of x)
keeps_object words.Null = record { keeps = λ a. refl }
keeps_object (words.Bool t) = record { keeps = λ a. refl }
keeps_object (words.Int n) = record { keeps = λ a. refl }
keeps_object (words.Uint n) = record { keeps = λ a. refl }
keeps_object (words.Int64 n) = record { keeps = λ a. refl }
keeps_object (words.Uint64 n) = record { keeps = λ a. refl }
keeps_object (words.Object number) = record { keeps = λ a. refl }

index_by : (t : Bool) (k : ℕ) (a : Activity)
    → locals_after (a.frame).locals (onward (demand t IndexOutOfBounds a) (λ _. give k)) ≡ (a.frame).locals
index_by true k a = refl
index_by false k a = refl

keeps_index : (number : ℕ) (i : Word) → KeepsLocals (index_in number i)
keeps_index number i = record {
  keeps = λ a. index_by (nat_lt (natural_of i) (length (words_in number a.world))) (natural_of i) a;
}

keeps_located : (spot : Spot) (ws : List Word) → KeepsLocals (located spot ws)
keeps_located (spots.Local n) ws = keeps_give (Local n)
keeps_located (spots.Global n) ws = keeps_give (Global n)
keeps_located (spots.Field object place) ws =
    let x = slice_index_or ws object words.Null in
    keeps_then (object_of x) (λ number. give (Part number place)) (keeps_object x)
    (λ number. keeps_give (Part number place))
keeps_located (spots.Property object id of) ws =
    let x = slice_index_or ws object words.Null in
    keeps_then (object_of x) (λ number. give (Property number id of)) (keeps_object x)
    (λ number. keeps_give (Property number id of))
keeps_located (spots.Element array index) ws =
    let x = slice_index_or ws array words.Null in
    let i = slice_index_or ws index words.Null in
    keeps_then (object_of x) (λ number. index_in number i >>= (λ place. give (Part number place))) (keeps_object x)
    (λ number. keeps_then (index_in number i) (λ place. give (Part number place)) (keeps_index number i)
    (λ place. keeps_give (Part number place)))

-- Reading changes no local.

keeps_read : (l : Location) → KeepsLocals (read l)
keeps_read (Local n) = record { keeps = λ a. refl }
keeps_read (Global n) = record { keeps = λ a. refl }
keeps_read (Part number place) = record { keeps = λ a. refl }
keeps_read (Property number id of) =
    keeps_then (call_host (targets.Object number) (Get id)) (accept (Some of))
    (keeps_call_host (targets.Object number) (Get id)) (λ answer. keeps_accept (Some of) answer)

pub reads_locals : (spot : Spot) (ws : List Word) (b d : Activity) (v : Word)
    → onward (located spot ws b) (λ l. read l >>= give_held) ≡ Done v d → (d.frame).locals ≡ (b.frame).locals
reads_locals spot ws b d v ran =
    done_keeps (located spot ws >>= (λ l. read l >>= give_held)) b d v
    (keeps_then (located spot ws) (λ l. read l >>= give_held) (keeps_located spot ws)
    (λ l. keeps_then (read l) give_held (keeps_read l) keeps_give_held)) ran

-- Writing changes the local that is written, and no other.

keeps_part : (number place : ℕ) (word : Word) → KeepsLocals (write (Part number place) word)
keeps_part number place word = record { keeps = λ a. refl }

keeps_property : (number id : ℕ) (of : VarType) (word : Word) → KeepsLocals (write (Property number id of) word)
keeps_property number id of word =
    keeps_then (call_host (targets.Object number) (Set id word) >>= accept None) (λ _. give tt)
    (keeps_then (call_host (targets.Object number) (Set id word)) (accept None)
    (keeps_call_host (targets.Object number) (Set id word)) (λ answer. keeps_accept None answer))
    (λ _. keeps_give tt)

field_keeps : (x : Word) (place : ℕ) (word : Word)
    → KeepsLocals (object_of x >>= (λ number. give (Part number place)) >>= (λ l. write l word))
field_keeps x place word = record {
  keeps = λ a.
      ap (λ (p : Progress (Unit {0})). locals_after (a.frame).locals p)
      (grouped (object_of x a) (λ number. give (Part number place)) (λ l. write l word))
      ∙ (keeps_then (object_of x) (λ number. write (Part number place) word) (keeps_object x)
      (λ number. keeps_part number place word)).keeps a;
}

property_keeps : (x : Word) (id : ℕ) (of : VarType) (word : Word)
    → KeepsLocals (object_of x >>= (λ number. give (Property number id of)) >>= (λ l. write l word))
property_keeps x id of word = record {
  keeps = λ a.
      ap (λ (p : Progress (Unit {0})). locals_after (a.frame).locals p)
      (grouped (object_of x a) (λ number. give (Property number id of)) (λ l. write l word))
      ∙ (keeps_then (object_of x) (λ number. write (Property number id of) word) (keeps_object x)
      (λ number. keeps_property number id of word)).keeps a;
}

indexed_keeps : (number : ℕ) (i word : Word)
    → KeepsLocals (index_in number i >>= (λ place. give (Part number place)) >>= (λ l. write l word))
indexed_keeps number i word = record {
  keeps = λ a.
      ap (λ (p : Progress (Unit {0})). locals_after (a.frame).locals p)
      (grouped (index_in number i a) (λ place. give (Part number place)) (λ l. write l word))
      ∙ (keeps_then (index_in number i) (λ place. write (Part number place) word) (keeps_index number i)
      (λ place. keeps_part number place word)).keeps a;
}

element_keeps : (x i word : Word)
    → KeepsLocals (object_of x >>= (λ number. index_in number i >>= (λ place. give (Part number place)))
    >>= (λ l. write l word))
element_keeps x i word = record {
  keeps = λ a.
      ap (λ (p : Progress (Unit {0})). locals_after (a.frame).locals p)
      (grouped (object_of x a) (λ number. index_in number i >>= (λ place. give (Part number place)))
      (λ l. write l word))
      ∙ (keeps_then (object_of x)
      (λ number. index_in number i >>= (λ place. give (Part number place)) >>= (λ l. write l word)) (keeps_object x)
      (λ number. indexed_keeps number i word)).keeps a;
}

pub writes_locals : (spot : Spot) (ws : List Word) (word : Word) (b d : Activity) (v : Unit {0})
    → onward (located spot ws b) (λ l. write l word) ≡ Done v d
    → (d.frame).locals ≡ slots_after spot word (b.frame).locals
writes_locals (spots.Local n) ws word b d v ran =
    ap (λ (p : Progress (Unit {0})). locals_after (slice_set (b.frame).locals n word) p) (sym ran)
writes_locals (spots.Global n) ws word b d v ran =
    ap (λ (p : Progress (Unit {0})). locals_after (b.frame).locals p) (sym ran)
writes_locals (spots.Field object place) ws word b d v ran =
    done_keeps (located (spots.Field object place) ws >>= (λ l. write l word)) b d v
    (field_keeps (slice_index_or ws object words.Null) place word) ran
writes_locals (spots.Property object id of) ws word b d v ran =
    done_keeps (located (spots.Property object id of) ws >>= (λ l. write l word)) b d v
    (property_keeps (slice_index_or ws object words.Null) id of word) ran
writes_locals (spots.Element array index) ws word b d v ran =
    done_keeps (located (spots.Element array index) ws >>= (λ l. write l word)) b d v
    (element_keeps (slice_index_or ws array words.Null) (slice_index_or ws index words.Null) word) ran

-- The locals stay the first slots.
pub after_take : (spot : Spot) (word : Word) (ws : List Word) (count : ℕ)
    → ((n : ℕ) → spot ≡ spots.Local n → n < count)
    → slots_after spot word (take count ws) ≡ take count (slots_after spot word ws)
after_take (spots.Local n) word ws count low = sym (take-set-lt count ws n word (low n refl))
after_take (spots.Global n) word ws count low = refl
after_take (spots.Field object place) word ws count low = refl
after_take (spots.Property object id of) word ws count low = refl
after_take (spots.Element array index) word ws count low = refl
