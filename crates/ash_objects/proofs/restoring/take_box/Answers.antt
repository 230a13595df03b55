use Rattle.std.proofs.Common.{◌≡◌, ℕ, None, Some, sym, subst, ap, ◌∙◌, nat_eq}
use Rattle.std.specs.List.{position}
use Rattle.std.specs.Option.{option_map}
use Rattle.std.proofs.lemmas.List.Quantifiers.{position-Some}
use Rattle.ash_slots.specs.declared.body.Body.{Body}
use Rattle.ash_slots.specs.SlotResponses.{box_of}
use Rattle.ash_objects.specs.declared.restoring.SavedHostObject.{SavedHostObject}
use Rattle.ash_objects.specs.Restoring.{kind_wanted}
use Rattle.ash_objects.proofs.Drawing.{then_found, then_short}
use Rattle.ash_objects.proofs.Faults.{same_short}
use Rattle.ash_objects.proofs.Newcomers.{got}
use Rattle.ash_objects.proofs.restoring.take_box.Goals as goal

pub returns-clause-taken : goal.returns-clause-taken
returns-clause-taken g c = λ others.
    let pool = c.args.pool.now.items in
    let kind = c.in-Host.saved.kind in
    let wanted : kind_wanted c.args.object.now ≡ Some kind = ap (λ (b : Body SavedHostObject). option_map (λ saved. saved.kind) (box_of b)) c.in-Host.is in
    let first : position (λ box. nat_eq (g.B.HostObject.kind_of box) kind) pool ≡ Some c.in-Some.place = sym (rw c.deref.ensures.value at c.place_of_kind.ensures.value) ∙ c.in-Some.is in
    let within = (position-Some (λ box. nat_eq (g.B.HostObject.kind_of box) kind) pool c.in-Some.place c.remove.result first).0 in
    then_found g.B.HostObject (kind_wanted c.args.object.now) kind c.in-Some.place c.remove.result pool c.remove.new.self.items others wanted first (got pool c.in-Some.place c.remove.result within c.remove.ensures.value) c.remove.ensures.items

pub returns-in_default-clause-short : goal.returns-in_default-clause-short
returns-in_default-clause-short g c = λ kind is others.
    let pool = c.args.pool.now.items in
    let wanted : kind_wanted c.args.object.now ≡ Some c.in-Host.saved.kind = ap (λ (b : Body SavedHostObject). option_map (λ saved. saved.kind) (box_of b)) c.in-Host.is in
    let none : position (λ box. nat_eq (g.B.HostObject.kind_of box) c.in-Host.saved.kind) pool ≡ None = sym (rw c.deref.ensures.value at c.place_of_kind.ensures.value) ∙ c.in_default.is in
    let same = same_short c.in-Host.saved.kind kind is in
    then_short g.B.HostObject (kind_wanted c.args.object.now) kind pool others (wanted ∙ ap Some same) (subst (λ (k : ℕ). position (λ box. nat_eq (g.B.HostObject.kind_of box) k) pool ≡ None) same none)
