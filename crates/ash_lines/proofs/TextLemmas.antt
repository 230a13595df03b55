-- Texts that depend on whether there is something to write.
use Rattle.std.proofs.Common.{◌≡◌, ℕ, ◌==◌, Bool, true, false, List, [], ◌∷◌, ◌++◌, length, codes, refl, sym, ◌∙◌}
use Rattle.std.specs.List.{flat_map, list_any}
use Rattle.ash_host.specs.declared.event.Event.{Event}
use Rattle.ash_lines.specs.ObjectTexts.{byte_text, state_text}
use Rattle.ash_lines.specs.ReplyText.{is_drop, drop_text, drops_text}

-- a state that has bytes
pub some-state : (state : List ℕ) (empty : Bool) → empty ≡ (length state == 0) → empty ≡ false → state_text state ≡ codes " state " ++ flat_map byte_text state
some-state [] empty e f = absurd (let q : true ≡ false = sym e ∙ f in cc)
some-state (byte ∷ state) empty e f = refl

-- events among which something was dropped
pub some-drops : (events : List Event) → true ≡ list_any is_drop events → drops_text events ≡ codes " dropped" ++ flat_map drop_text events
some-drops events e = rw (← e) refl
