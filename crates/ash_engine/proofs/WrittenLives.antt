-- A live state may be written, and what is written is the state that it has.
use Rattle.std.proofs.Common.{◌≡◌, ℕ, List, length, sym, ap, ◌∙◌, subst}
use Rattle.std.proofs.lemmas.List.{length-map}
use Rattle.std.proofs.lemmas.Slice.Zip.{AllZip-long}
use Rattle.ash_host.specs.declared.host_object.HostObject.{Ghosts}
use Rattle.ash_registry.specs.AcceptedRegistrations.{Registration}
use Rattle.ash_objects.specs.Table.{Table}
use Rattle.ash_plain_steps.specs.declared.state.LoadedModule.{LoadedModule}
use Rattle.ash_plain_steps.specs.StateViews.{modules_seen}
use Rattle.ash_states.specs.HostStates.{HostState, IsAdmitted}
use Rattle.ash_table_states.specs.declared.writing.TableState.{TableState}
use Rattle.ash_table_states.specs.TableStates.{state_shown}
use Rattle.ash_table_states.specs.WrittenStates.{state_in, IsWritable}
use Rattle.ash_engine.specs.declared.live.Compiled.{Compiled}
use Rattle.ash_engine.specs.declared.live.Live.{Live}
use Rattle.ash_engine.specs.TableStates.{slots_of, IsCompiledFrom, durable_seen, IsLive}

module _ {B : Type 0} (G : Ghosts B) (registered : List Registration) (l : Live B) (s : TableState B)
    (modules : s.modules.now ≡ l.loaded.modules.items) (slots : s.slots.now ≡ slots_of l.compiled.items)
    (table : s.table.now ≡ l.table) (seq : s.seq ≡ l.loaded.seq) where
  abbrev with_these : List LoadedModule → List ℕ → ℕ → Table B → HostState
  with_these ms ns n t = record { registered = registered; state = state_shown G (modules_seen ms) ns n t }

  pub same : state_in G registered s ≡ durable_seen G registered l
  same =
      ap (λ (ms : List LoadedModule). with_these ms s.slots.now s.seq s.table.now) modules
      ∙ ap (λ (ns : List ℕ). with_these l.loaded.modules.items ns s.seq s.table.now) slots
      ∙ ap (λ (n : ℕ). with_these l.loaded.modules.items (slots_of l.compiled.items) n s.table.now) seq
      ∙ ap (λ (t : Table B). with_these l.loaded.modules.items (slots_of l.compiled.items) l.loaded.seq t) table

  pub writable : IsLive G registered l → s.last ≡ l.table.last → IsWritable G registered s
  writable h last = record {
    admitted = subst IsAdmitted (sym same) h.admitted;
    many = ap length slots
        ∙ length-map l.compiled.items (λ (c : Compiled). c.code.module)
        ∙ AllZip-long IsCompiledFrom l.loaded.modules.items l.compiled.items h.compiled.each
        ∙ sym (ap length modules);
    last = last ∙ ap (λ (t : Table B). t.last) (sym table);
  }
