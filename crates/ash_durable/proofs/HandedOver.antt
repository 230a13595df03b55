-- Boxes that are handed over: with such as a state can be opened with, no box lacks and none refuses.
use Rattle.std.proofs.Common.{◌≡◌, inl, inr, ℕ, zero, suc, Bool, true, false, nat_eq, List, [], ◌∷◌, map, take, length}
use Rattle.std.proofs.Common.{get_or, slice_get, remove, position, option_map, Option, Some, None, refl, sym, ◌∙◌, ap}
use Rattle.std.proofs.Common.{subst, arith, if◌then◌else◌}
use Rattle.std.specs.Option.{option_and_then}
use Rattle.std.specs.List.{AllByRecursion, cons_option}
use Rattle.std.proofs.lemmas.Bool.Decides.{nat_tests}
use Rattle.std.proofs.lemmas.List.Quantifiers.{position-Some}
use Rattle.std.proofs.lemmas.Map.Made.{lookup-map_values}
use Rattle.std.proofs.lemmas.Option.{get_or_from_slice_get, slice_get-map}
use Rattle.ash_host.specs.declared.host_object.HostObject.{Ghosts}
use Rattle.ash_host.specs.Objects.{Plain, Script, Array, Host, LiveObjects, object_at}
use Rattle.ash_host.specs.Saved.{RestoresSaved}
use Rattle.ash_meaning.specs.Activity.{FreeBox}
use Rattle.ash_soundness.specs.WellFormed.{Known, IsState, IsObject, is_host}
use Rattle.ash_objects.specs.Restoring.{draw_box}
use Rattle.ash_states.specs.HostStates.{HostState, service_kinds}
use Rattle.ash_states.proofs.Lists.{all_more, each_at}
use Rattle.ash_engine.specs.Drawing.{Drawing, Short, Enough, with_first, draw_then, draw_all}
use Rattle.ash_engine.specs.LiveStates.{LiveState, host_in, hosts_in, services_for, plain_box, plain_entry}
use Rattle.ash_engine.specs.RestoredBoxes.{HasServices, IsShort, IsRefused, Service, Object, kinds_wanted}
use Rattle.ash_engine.proofs.Served.{kinds_served}
use Rattle.ash_durable.specs.HandedBoxes.{IsSavedBy, AreSaved, CanOpen, RestoreKinds}
use Rattle.ash_durable.specs.Hosting.{IsSound}

module _ {B : Type 0} (G : Ghosts B) (pool services : List B) (state : HostState) where
  -- there are boxes enough
  pub not_short : (kind : ℕ) → CanOpen G pool services state → IsShort G state pool services kind → ⊥
  not_short kind can (inl lacks) =
      let h : None ≡ Some kind = sym can.has ∙ lacks in absurd (cc)
  not_short kind can (inr (has, short)) =
      let h : Enough can.drawn can.left ≡ Short kind = sym can.enough ∙ short in absurd (cc)

  -- and none refuses what the state has for it
  pub not_refused : (number : ℕ) → CanOpen G pool services state → IsRefused G state pool services number → ⊥
  not_refused _ can (Service drawn left has enough refused) =
      can.services_take refused.place refused.service refused.bytes refused.there refused.state refused.refused
  not_refused number can (Object _ drawn left back has enough served refused) =
      let h : Enough drawn left ≡ Enough can.drawn can.left = sym enough ∙ can.enough in
      let same : drawn ≡ can.drawn = cc in
      can.objects_take number refused.host refused.box refused.there
      (subst (λ (boxes : List (ℕ × B)). object_at number boxes ≡ Some refused.box) same refused.took) refused.refused

  -- a box whose kind restores what it saves refuses none of it
  never_refuses : (box : B) (kind : ℕ) (bytes : List ℕ) → RestoresSaved G box → G.kind_of box ≡ kind
      → IsSavedBy G kind bytes → G.refuses box bytes → ⊥
  never_refuses box kind bytes restores is (object, of, saves) refused =
      restores object bytes (of ∙ sym is) saves refused

-- ---- lists

-- P holds of what is among the first of a list, if it holds of all of it
all_take : {A : Type 0} (P : A → Type 0) (n : ℕ) (xs : List A) (i : ℕ) (x : A) → AllByRecursion P xs
    → slice_get (take n xs) i ≡ Some x → P x
all_take P zero xs i x all is = absurd (cc)
all_take P (suc n) [] i x all is = absurd (cc)
all_take P (suc n) (y ∷ xs) zero x all is = let same : y ≡ x = cc in subst P same all.0
all_take P (suc n) (y ∷ xs) (suc i) x all is = all_take P n xs i x all.1 is

all_there : {A : Type 0} (P : A → Type 0) (xs : List A) (i : ℕ) (x : A) → AllByRecursion P xs
    → slice_get xs i ≡ Some x → P x
all_there P [] i x all is = absurd (cc)
all_there P (y ∷ xs) zero x all is = let same : y ≡ x = cc in subst P same all.0
all_there P (y ∷ xs) (suc i) x all is = all_there P xs i x all.1 is

all_remove : {A : Type 0} (P : A → Type 0) (xs : List A) (i : ℕ) → AllByRecursion P xs → AllByRecursion P (remove xs i)
all_remove P [] zero all = tt
all_remove P [] (suc i) all = tt
all_remove P (x ∷ xs) zero all = all.1
all_remove P (x ∷ xs) (suc i) all = (all.0, all_remove P xs i all.1)

-- P holds of what a number has in a list, if it holds of all
all_at : {A : Type 0} (P : A → Type 0) (number : ℕ) (es : List (ℕ × A)) (x : A)
    → AllByRecursion (λ (e : ℕ × A). P e.1) es → object_at number es ≡ Some x → P x
all_at P number [] x all is = absurd (cc)
all_at {A} P number (e ∷ es) x all is = by (nat_eq number e.0) is (all_at P number es x all.1)
  where
    by : (b : Bool) → (if b then Some e.1 else object_at number es) ≡ Some x → (object_at number es ≡ Some x → P x)
        → P x
    by true at later = let same : e.1 ≡ x = cc in subst P same all.0
    by false at later = later at

same_number : (a b : ℕ) → nat_eq a b ≡ true → a ≡ b
same_number a b e = grind (arith, nat_tests)

-- ---- boxes that are drawn

module _ {B : Type 0} (G : Ghosts B) (P : B → Type 0) where
  -- each number that wants a kind took a box of it, with P
  abbrev AreDrawn : List (ℕ × ℕ) → List (ℕ × B) → Type 0
  AreDrawn [] [] = Unit {0}
  AreDrawn (w ∷ wanted) (d ∷ drawn) = (d.0 ≡ w.0) × (G.kind_of d.1 ≡ w.1) × P d.1 × AreDrawn wanted drawn
  AreDrawn [] (d ∷ drawn) = ⊥
  AreDrawn (w ∷ wanted) [] = ⊥

  -- a box that is drawn is of the kind, and was in the pool
  draw_one : (kind : ℕ) (pool : List B) (taken : B × List B) → AllByRecursion P pool
      → draw_box G kind pool ≡ Some taken → (G.kind_of taken.0 ≡ kind) × P taken.0 × AllByRecursion P taken.1
  draw_one kind pool taken all is = at (position test pool) refl is
    where
      test : B → Bool
      test box = nat_eq (G.kind_of box) kind

      drawn_at : ℕ → Option (B × List B)
      drawn_at place = option_map (λ (box : B). (box, remove pool place)) (slice_get pool place)

      got : (place : ℕ) (found : Option B) → position test pool ≡ Some place → slice_get pool place ≡ found
          → option_map (λ (box : B). (box, remove pool place)) found ≡ Some taken
          → (G.kind_of taken.0 ≡ kind) × P taken.0 × AllByRecursion P taken.1
      got place None where_is there drawn = absurd (cc)
      got place (Some box) where_is there drawn =
          let same : (box, remove pool place) ≡ taken = cc in
          let tested = (position-Some test pool place box where_is).1 in
          let here : get_or pool place box ≡ box = get_or_from_slice_get pool place box box there in
          let kind_is : G.kind_of box ≡ kind =
          same_number (G.kind_of box) kind (subst (λ (b : B). test b ≡ true) here tested) in
          subst (λ (t : B × List B). (G.kind_of t.0 ≡ kind) × P t.0 × AllByRecursion P t.1) same
          (kind_is, all_there P pool place box all there, all_remove P pool place all)

      at : (found : Option ℕ) → position test pool ≡ found → option_and_then drawn_at found ≡ Some taken
          → (G.kind_of taken.0 ≡ kind) × P taken.0 × AllByRecursion P taken.1
      at None where_is drawn = absurd (cc)
      at (Some place) where_is drawn = got place (slice_get pool place) where_is refl drawn

  drawn_all : (wanted : List (ℕ × ℕ)) (pool : List B) (drawn : List (ℕ × B)) (left : List B) → AllByRecursion P pool
      → draw_all G wanted pool ≡ Enough drawn left → AreDrawn wanted drawn
  drawn_all [] pool drawn left all is =
      let same : [] ≡ drawn = cc in subst (λ (ds : List (ℕ × B)). AreDrawn [] ds) same tt
  drawn_all (w ∷ wanted) pool drawn left all is =
      at (draw_box G w.1 pool) refl is (λ rest boxes l. drawn_all wanted rest boxes l)
    where
      Later : Type 0
      Later = (rest : List B) (boxes : List (ℕ × B)) (l : List B) → AllByRecursion P rest
          → draw_all G wanted rest ≡ Enough boxes l → AreDrawn wanted boxes

      rest : (taken : B × List B) (others : Drawing B) → draw_box G w.1 pool ≡ Some taken
          → draw_all G wanted taken.1 ≡ others → with_first w.0 taken.0 others ≡ Enough drawn left → Later
          → AreDrawn (w ∷ wanted) drawn
      rest taken (Short kind) took others_are first later = absurd (cc)
      rest taken (Enough boxes l) took others_are first later =
          let same : (w.0, taken.0) ∷ boxes ≡ drawn = cc in
          let one = draw_one w.1 pool taken all took in
          subst (λ (ds : List (ℕ × B)). AreDrawn (w ∷ wanted) ds) same
          (refl, one.0, one.1, later taken.1 boxes l one.2 others_are)

      at : (found : Option (B × List B)) → draw_box G w.1 pool ≡ found
          → draw_then w.0 w.1 found (λ rest_left. draw_all G wanted rest_left) ≡ Enough drawn left → Later
          → AreDrawn (w ∷ wanted) drawn
      at None took drawn_is later = absurd (cc)
      at (Some taken) took drawn_is later = rest taken (draw_all G wanted taken.1) took refl drawn_is later

  -- the box that a number took is of the kind that it wants
  took_kind : (wanted : List (ℕ × ℕ)) (drawn : List (ℕ × B)) (number kind : ℕ) (box : B) → AreDrawn wanted drawn
      → object_at number wanted ≡ Some kind → object_at number drawn ≡ Some box → (G.kind_of box ≡ kind) × P box
  took_kind [] drawn number kind box are wants took = absurd (cc)
  took_kind (w ∷ wanted) [] number kind box are wants took = absurd are
  took_kind (w ∷ wanted) (d ∷ drawn) number kind box are wants took =
      by (nat_eq number w.0) wants (subst (λ (n : ℕ). (if nat_eq number n then Some d.1 else object_at number drawn)
      ≡ Some box) are.0 took) (took_kind wanted drawn number kind box are.3)
    where
      by : (b : Bool) → (if b then Some w.1 else object_at number wanted) ≡ Some kind
          → (if b then Some d.1 else object_at number drawn) ≡ Some box
          → (object_at number wanted ≡ Some kind → object_at number drawn ≡ Some box → (G.kind_of box ≡ kind) × P box)
          → (G.kind_of box ≡ kind) × P box
      by true wants_it took_it later =
          let kind_is : w.1 ≡ kind = cc in
          let box_is : d.1 ≡ box = cc in
          (subst (λ (b : B). G.kind_of b ≡ kind) box_is (are.1 ∙ kind_is), subst P box_is are.2)
      by false wants_it took_it later = later wants_it took_it

-- ---- boxes whose kinds restore what they save

module _ {B : Type 0} (G : Ghosts B) (pool services : List B) (state : HostState) where
  abbrev kinds : List ℕ
  kinds = service_kinds state.registered

  -- a service is of the kind that is registered in its place
  service_kind_at : HasServices G state.registered services → (place : ℕ) (service : B)
      → slice_get (services_for state.registered services) place ≡ Some service
      → slice_get kinds place ≡ Some (G.kind_of service)
  service_kind_at has place service there =
      let are : map G.kind_of (take (length kinds) services) ≡ kinds = kinds_served G kinds services has in
      subst (λ (ks : List ℕ). slice_get ks place ≡ Some (G.kind_of service)) are
      (slice_get-map G.kind_of (take (length kinds) services) place
      ∙ ap (λ (o : Option B). option_map G.kind_of o) there)

  service_takes : AreSaved G state → RestoreKinds G pool services state → (place : ℕ) (service : B) (bytes : List ℕ)
      → slice_get (services_for state.registered services) place ≡ Some service
      → slice_get (state.state).services place ≡ Some bytes → G.refuses service bytes → ⊥
  service_takes saved restore place service bytes there has refused =
      never_refuses G pool services state service (G.kind_of service) bytes
      (all_take (RestoresSaved G) (length kinds) services place service restore.services_restore there) refl
      (saved.services place (G.kind_of service) bytes (service_kind_at restore.has place service there) has) refused

  object_takes : AreSaved G state → (restore : RestoreKinds G pool services state) → (number : ℕ) (host : FreeBox)
      (box : B) → object_at number (hosts_in (state.state).objects) ≡ Some host
      → object_at number restore.drawn ≡ Some box → G.refuses box host.state → ⊥
  object_takes saved restore number host box there took refused =
      let wants : object_at number (kinds_wanted state) ≡ Some host.kind =
      lookup-map_values (λ (h : FreeBox). h.kind) (nat_eq number) (hosts_in (state.state).objects)
      ∙ ap (λ (o : Option FreeBox). option_map (λ (h : FreeBox). h.kind) o) there in
      let of_kind = took_kind G (RestoresSaved G) (kinds_wanted state) restore.drawn number host.kind box
      (drawn_all G (RestoresSaved G) (kinds_wanted state) pool restore.drawn restore.left restore.pool_restores
      restore.enough) wants took in
      never_refuses G pool services state box host.kind host.state of_kind.1 of_kind.0
      (saved.objects number host there) refused

  -- with such boxes a state lives again of which each host object and each service has what an object of its kind saves
  pub kinds_open : AreSaved G state → RestoreKinds G pool services state → CanOpen G pool services state
  kinds_open saved restore = record {
    has = restore.has;
    drawn = restore.drawn;
    left = restore.left;
    enough = restore.enough;
    objects_take = object_takes saved restore;
    services_take = service_takes saved restore;
  }

-- ---- what live boxes have is saved

-- a host object that is well-formed has no longer state than it may
host_fits : (modules : Known) (all : LiveObjects (List ℕ)) (number : ℕ) (object : Plain (List ℕ))
    (more : List (ℕ × FreeBox)) → IsObject modules all object
    → AllByRecursion (λ (e : ℕ × FreeBox). IsState (e.1).state) more
    → AllByRecursion (λ (e : ℕ × FreeBox). IsState (e.1).state)
    (cons_option (option_map (λ (host : FreeBox). (number, host)) (host_in object)) more)
host_fits modules all number (Script owner place fields) more is rest = rest
host_fits modules all number (Array of elements) more is rest = rest
host_fits modules all number (Host kind state) more (is_host fits) rest = (fits, rest)

hosts_fit : (modules : Known) (all objects : LiveObjects (List ℕ))
    → AllByRecursion (λ (e : ℕ × Plain (List ℕ)). IsObject modules all e.1) objects
    → AllByRecursion (λ (e : ℕ × FreeBox). IsState (e.1).state) (hosts_in objects)
hosts_fit modules all [] are = tt
hosts_fit modules all (e ∷ objects) are =
    host_fits modules all e.0 e.1 (hosts_in objects) are.0 (hosts_fit modules all objects are.1)

module _ {B : Type 0} (G : Ghosts B) (live : LiveState B) (sound : IsSound G live) where
  abbrev state : HostState
  state = live.durable

  all_fit : AllByRecursion (λ (e : ℕ × FreeBox). IsState (e.1).state) (hosts_in (state.state).objects)
  all_fit =
      let formed = ((sound.reached).admitted).formed in
      hosts_fit _ (state.state).objects (state.state).objects
      (all_more (λ (e : ℕ × Plain (List ℕ)). object_at e.0 (state.state).objects ≡ Some e.1) _
      (λ e at. (formed.living).each e.0 e.1 at) (state.state).objects
      (each_at (state.state).objects (formed.numbered).in_order))

  object_saved : (host : FreeBox) (found : Option B) → option_map (plain_box G) found ≡ Some host
      → IsState host.state → IsSavedBy G host.kind host.state
  object_saved host None is fits = absurd (cc)
  object_saved host (Some box) is fits =
      let same : plain_box G box ≡ host = cc in
      let state_is : host.state ≡ G.state box = sym (ap (λ (h : FreeBox). h.state) same) in
      (box, ap (λ (h : FreeBox). h.kind) same, record { state_is = state_is; fits = fits })

  service_saved : (kind : ℕ) (bytes : List ℕ) (found : Option B) → option_map G.kind_of found ≡ Some kind
      → option_map G.state found ≡ Some bytes → IsState bytes → IsSavedBy G kind bytes
  service_saved kind bytes None of is fits = absurd (cc)
  service_saved kind bytes (Some box) of is fits =
      let kind_is : G.kind_of box ≡ kind = cc in
      let state_is : G.state box ≡ bytes = cc in
      (box, kind_is, record { state_is = sym state_is; fits = fits })

  -- each host object and each service of a live state has what an object of its kind saves
  pub live_saved : AreSaved G live.durable
  live_saved = record {
    objects = λ number host there.
        let at : object_at number (map (plain_entry G) (live.boxes).objects) ≡ Some host =
        subst (λ (hs : List (ℕ × FreeBox)). object_at number hs ≡ Some host) (sound.boxes).objects there in
        object_saved host (object_at number (live.boxes).objects)
        (sym (lookup-map_values (plain_box G) (nat_eq number) (live.boxes).objects) ∙ at)
        (all_at (λ (h : FreeBox). IsState h.state) number (hosts_in (state.state).objects) host all_fit there);
    services = λ place kind bytes of is.
        let boxes = (live.boxes).services in
        let kind_at : slice_get (map G.kind_of boxes) place ≡ Some kind =
        subst (λ (ks : List ℕ). slice_get ks place ≡ Some kind) (sym (sound.boxes).kinds) of in
        let state_at : slice_get (map G.state boxes) place ≡ Some bytes =
        subst (λ (ss : List (List ℕ)). slice_get ss place ≡ Some bytes) (sound.boxes).services is in
        service_saved kind bytes (slice_get boxes place)
        (sym (slice_get-map G.kind_of boxes place) ∙ kind_at) (sym (slice_get-map G.state boxes place) ∙ state_at)
        (all_there IsState (state.state).services place bytes (((sound.reached).admitted).formed).services is);
  }
