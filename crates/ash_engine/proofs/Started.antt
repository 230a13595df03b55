-- The live states with which engines start from stored ones, and why there is none.
use Rattle.std.proofs.Common.{◌≡◌, ℕ, List, map, Option, Some, sym, ap, ◌∙◌, subst, inr}
use Rattle.ash_host.specs.declared.host_object.HostObject.{Ghosts}
use Rattle.ash_host.specs.Objects.{LiveObjects, object_at, IsInOrder}
use Rattle.ash_meaning.specs.Activity.{FreeBox}
use Rattle.ash_objects.specs.declared.restoring.SavedObject.{SavedObject}
use Rattle.ash_objects.specs.Restoring.{Drawn, draw_boxes, stored_in, RestoresServices, IsRestored}
use Rattle.ash_objects.specs.Restoring as restoring
use Rattle.ash_objects.specs.Table.{Table}
use Rattle.ash_object_ranks.specs.ShownTables.{SlotNames, objects_shown}
use Rattle.ash_requests.specs.States.{State}
use Rattle.ash_run_steps.specs.Answered.{boxes_of}
use Rattle.ash_states.specs.HostStates.{HostState, service_kinds}
use Rattle.ash_states.specs.Images.{name_at, entry_named}
use Rattle.ash_states.specs.Indexes.{index_in, entry_indexed}
use Rattle.ash_table_states.specs.SavedObjects.{AreSavedOf}
use Rattle.ash_table_states.specs.TableStates.{names_in, places_from}
use Rattle.ash_table_states.proofs.Shown.{kinds_drawn, bodies_named}
use Rattle.ash_table_states.proofs.SlotNames.{names_of_places}
use Rattle.ash_change_laws.specs.ChangedStates.{nothing}
use Rattle.ash_engine.specs.LiveStates.{LiveState, AreOf, hosts_in, services_for, plain_box}
use Rattle.ash_engine.specs.Drawing.{Enough, draw_all}
use Rattle.ash_engine.specs.SavedDrawing.{by_number, drawing_of}
use Rattle.ash_engine.specs.RestoredBoxes.{HasServices, IsShort, BoxRefused, IsRefused, Service, Object, Restores}
use Rattle.ash_engine.specs.RestoredTables.{IsTableOf, IsShortOf, IsRefusedOf}
use Rattle.ash_engine.proofs.Drawn.{agree}
use Rattle.ash_engine.proofs.RestoredHosts.{hosts_saved, hosts_are_saved, kinds_saved, boxes_shown, took}
use Rattle.ash_engine.proofs.RefusedHosts.{refused_by}

module _ {B : Type 0} (G : Ghosts B) where
  -- the boxes of a table are those of the state that it shows
  pub are_of : (names : SlotNames) (live : LiveState B) (table : Table B) → live.boxes ≡ boxes_of table → live.pool ≡ map (plain_box G) table.pool
      → ((live.durable).state).objects ≡ objects_shown G names table.objects → ((live.durable).state).services ≡ map G.state table.services
      → map G.kind_of table.services ≡ service_kinds (live.durable).registered → AreOf G live
  are_of names live table boxes pool objects services kinds = record {
    objects = ap hosts_in objects ∙ boxes_shown G names table.objects ∙ ap (λ (b : _). map (Rattle.ash_engine.specs.LiveStates.plain_entry G) b.objects) (sym boxes);
    services = services ∙ ap (λ (b : _). map G.state b.services) (sym boxes);
    kinds = ap (λ (b : _). map G.kind_of b.services) boxes ∙ kinds;
    pool = pool ∙ ap (λ (b : _). map (plain_box G) b.pool) (sym boxes);
  }

  module _ (s : State) (saved : List SavedObject) (are : AreSavedOf s saved) where
    hosts : hosts_in s.objects ≡ hosts_saved saved
    hosts = hosts_are_saved (index_in s.modules) s.objects saved are

    -- the host objects of the state take what the table takes for all objects
    draws : (pool : List B) → draw_all G (map (λ (e : ℕ × FreeBox). (e.0, (e.1).kind)) (hosts_in s.objects)) pool ≡ drawing_of saved (draw_boxes G saved pool)
    draws pool =
        ap (λ (hs : List (ℕ × FreeBox)). draw_all G (map (λ (e : ℕ × FreeBox). (e.0, (e.1).kind)) hs) pool) hosts
        ∙ ap (λ (ks : List (ℕ × ℕ)). draw_all G ks pool) (kinds_saved saved)
        ∙ agree G saved pool

    -- the table shows the objects of the state, where modules have their indexes for slots
    pub shown : (pool : List B) (table : Table B) → IsRestored G saved pool table
        → map (entry_named (name_at s.modules)) (map (entry_indexed (index_in s.modules)) s.objects) ≡ s.objects
        → objects_shown G (names_in s.modules (places_from 0 s.modules)) table.objects ≡ s.objects
    shown pool table r back =
        bodies_named G (names_in s.modules (places_from 0 s.modules)) (name_at s.modules) (names_of_places s.modules) saved r.boxes table.objects
        (kinds_drawn G saved pool r.boxes table.pool r.drawn) r.bodies
        ∙ ap (λ (es : LiveObjects ℕ). map (entry_named (name_at s.modules)) es) are
        ∙ back

  module _ (s : HostState) (pool given : List B) (has : HasServices G s.registered given) where
    -- a stored state lives, with the boxes of its table
    pub restores : (before : Table B) (live : LiveState B) → IsTableOf G s.state pool before
        → live.durable ≡ s → live.changes ≡ nothing → AreOf G live → live.boxes ≡ boxes_of before
        → RestoresServices G (services_for s.registered given) (s.state).services before.services → Restores G s pool given live
    restores before live t durable unchanged of boxes served =
        let r = t.restored in
        let drawn = by_number t.saved r.boxes in
        let kinds = kinds_drawn G t.saved pool r.boxes before.pool r.drawn in
        let same = hosts s.state t.saved t.are in
        record {
          durable = durable;
          unchanged = unchanged;
          boxes = of;
          has = has;
          drawn = drawn;
          first_free = draws s.state t.saved t.are pool ∙ ap (drawing_of t.saved) r.drawn ∙ ap (λ (b : _). Enough drawn b.pool) (sym boxes);
          served = subst (λ (b : _). RestoresServices G (services_for s.registered given) (s.state).services b.services) (sym boxes) served;
          took = λ number host box after there drew now.
              took G number host box after t.saved r.boxes before.objects kinds r.bodies
              (subst (λ (hs : List (ℕ × FreeBox)). object_at number hs ≡ Some host) same there) drew
              (subst (λ (b : _). object_at number b.objects ≡ Some after) boxes now);
        }

    pub falls_short : (kind : ℕ) → IsShortOf G s.state pool kind → IsShort G s pool given kind
    falls_short kind t = inr (has, draws s.state t.saved t.are pool ∙ ap (drawing_of t.saved) t.short)

    box_refused : (saved : List SavedObject) (are : AreSavedOf s.state saved) (boxes : List (Option B)) (left : List B) (number : ℕ) → IsInOrder (stored_in saved)
        → draw_boxes G saved pool ≡ restoring.Enough boxes left → restoring.BoxRefused G saved boxes number → BoxRefused G s (by_number saved boxes) number
    box_refused saved are boxes left number order drawn refused =
        let same = hosts s.state saved are in
        let by = refused_by G saved boxes number order (kinds_drawn G saved pool boxes left drawn) refused in
        record {
          host = by.host;
          box = by.box;
          there = ap (λ (hs : List (ℕ × FreeBox)). object_at number hs) same ∙ by.there;
          took = by.took;
          before = λ m other its low there took. by.before m other its low (ap (λ (hs : List (ℕ × FreeBox)). object_at m hs) (sym same) ∙ there) took;
          refused = by.refused;
        }

    by_cause : (saved : List SavedObject) (are : AreSavedOf s.state saved) (order : IsInOrder (stored_in saved)) (number : ℕ)
        → restoring.IsRefused G saved (s.state).services pool (services_for s.registered given) number → IsRefused G s pool given number
    by_cause saved are order _ (restoring.Service boxes left drawn refused) =
        Service (by_number saved boxes) left has (draws s.state saved are pool ∙ ap (drawing_of saved) drawn) refused
    by_cause saved are order _ (restoring.Object number boxes left back drawn served refused) =
        Object number (by_number saved boxes) left back has (draws s.state saved are pool ∙ ap (drawing_of saved) drawn) served
        (box_refused saved are boxes left number order drawn refused)

    pub refuses : (number : ℕ) (t : IsRefusedOf G s.state pool (services_for s.registered given) number) → IsInOrder (stored_in t.saved) → IsRefused G s pool given number
    refuses number t order = by_cause t.saved t.are order number t.refused
