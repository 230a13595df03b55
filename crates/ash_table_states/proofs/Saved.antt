-- The objects of a state that a host may be in are such as a table takes.
use Rattle.std.proofs.Common.{◌≡◌, ◌≤◌, ℕ, List, map, length, Some, refl, arith}
use Rattle.std.specs.Prelude.{Contains}
use Rattle.std.proofs.lemmas.List.{length-map}
use Rattle.ash_host.specs.Limits.{max_elements}
use Rattle.ash_host.specs.Objects.{Plain, object_at, handles, fields_of, Lives}
use Rattle.ash_typed.specs.Signatures.{type_declared}
use Rattle.ash_soundness.specs.WellFormed.{IsObject, is_script, is_array, is_host}
use Rattle.ash_soundness.specs.WellFormedStates.{known_of}
use Rattle.ash_soundness.proofs.Lists.{values_length}
use Rattle.ash_sources.proofs.SourceLaws.{read_sound}
use Rattle.ash_states.specs.HostStates.{HostState, IsAdmitted, embedding_for, offered_to}
use Rattle.ash_states.specs.Images.{name_at, entry_named}
use Rattle.ash_states.specs.Indexes.{index_in, entry_indexed}
use Rattle.ash_states.proofs.Indexed.{indexed_name}
use Rattle.ash_states.proofs.Fitting.{few_fields}
use Rattle.ash_states.proofs.SnapshotRules.{part_lives, same_objects}

module _ (s : HostState) (h : IsAdmitted s) where
  few_words : {o : Plain (List ℕ)} → IsObject (known_of (embedding_for s.registered) (s.state).modules) (s.state).objects o → length (fields_of o) ≤ max_elements
  few_words (is_script {owner} script) =
      let name = indexed_name (embedding_for s.registered) (offered_to s.registered) (read_sound s.registered) s.state h.formed owner script.tree script.known in
      let few : length (script.source).fields ≤ 32 = few_fields name.sound script.class script.source script.at in
      let many = values_length script.values in
      omega (arith, few, many, length-map (script.source).fields type_declared)
  few_words (is_array array) = array.few
  few_words (is_host state) = omega arith

  pub short : (n : ℕ) (o : Plain (List ℕ)) → object_at n (s.state).objects ≡ Some o → length (fields_of o) ≤ max_elements
  short n o at = few_words (((h.formed).living).each n o at)

  pub alive : (n : ℕ) (o : Plain (List ℕ)) → object_at n (s.state).objects ≡ Some o → (m : ℕ) → Contains (handles (fields_of o)) m → Lives (s.state).objects m
  alive n o at m i = part_lives (embedding_for s.registered) (offered_to s.registered) s.state h.formed m (((h.formed).living).each n o at) i

  -- by their indexes and back
  pub back : map (entry_named (name_at (s.state).modules)) (map (entry_indexed (index_in (s.state).modules)) (s.state).objects) ≡ (s.state).objects
  back = same_objects (embedding_for s.registered) (offered_to s.registered) (read_sound s.registered) s.state h.formed (s.state).modules refl
