-- Replies to the lines of a batch, which are written one after another.
use Rattle.std.proofs.Common.{◌≡◌, ◌<◌, ◌≤◌, ℕ, ◌+◌, ◌-◌, List, [], ◌∷◌, ◌++◌, length, map, replicate, refl, sym, ap, ◌∙◌, subst}
use Rattle.std.proofs.Common.{append_assoc, arith, suc}
use Rattle.std.proofs.lemmas.List.{append-nil}
use Rattle.ash_durable.specs.BatchViews.{batch_reply_seen}
use Rattle.ash_durable.specs.declared.batch.BatchReply as code
use Rattle.ash_lines.specs.Sink.{Outlet, IsOutlet, Accepts, FailsPartway}
use Rattle.ash_lines.specs.ReplyText.{LineReply, reply_line, text_of}
use Rattle.ash_serve.specs.CommandReplies.{batch_line_reply}
use Rattle.ash_lines.proofs.SinkLemmas.{accepts-nil, accepts-then, accepts-fails, fails-more}

-- Of a text this is left to be written.
abbrev pub LeavesText : {K : Type 0} → Outlet K → List ℕ → K → List ℕ → K → Type 0
LeavesText outlet text old left new = (written : List ℕ) × Accepts outlet old written new × (text ≡ written ++ left)

pub leaves-all : {K : Type 0} (outlet : Outlet K) → IsOutlet outlet → (text left : List ℕ) (s : K) → text ≡ left → LeavesText outlet text s left s
leaves-all outlet is text left s e = ([], accepts-nil outlet is s, e)

pub leaves-less : {K : Type 0} (outlet : Outlet K) → IsOutlet outlet → (text piece more left : List ℕ) (s t u : K) → LeavesText outlet text s left t → left ≡ piece ++ more → Accepts outlet t piece u → LeavesText outlet text s more u
leaves-less outlet is text piece more left s t u h e a = (
  h.0 ++ piece,
  accepts-then outlet is s t u h.0 piece h.1 a,
  h.2 ∙ (ap (λ (x : List ℕ). h.0 ++ x) e ∙ sym (append_assoc h.0 piece more)),
)

pub leaves-failed : {K : Type 0} (outlet : Outlet K) → IsOutlet outlet → (text piece more left : List ℕ) (s t u : K) → LeavesText outlet text s left t → left ≡ piece ++ more → FailsPartway outlet t piece u → FailsPartway outlet s text u
leaves-failed outlet is text piece more left s t u h e f =
    subst (λ (x : List ℕ). FailsPartway outlet s x u) (sym (h.2 ∙ ap (λ (x : List ℕ). h.0 ++ x) e))
    (accepts-fails outlet is s t u h.0 (piece ++ more) h.1 (fails-more outlet t u piece more f))

pub leaves-none : {K : Type 0} (outlet : Outlet K) (text left : List ℕ) (s t : K) → LeavesText outlet text s left t → left ≡ [] → Accepts outlet s text t
leaves-none outlet text left s t h e =
    subst (λ (x : List ℕ). Accepts outlet s x t) (sym (h.2 ∙ (ap (λ (x : List ℕ). h.0 ++ x) e ∙ append-nil h.0))) h.1

-- the same reply for each line that is left

pub same-again : (count done : ℕ) (reply : LineReply) → done < count → text_of (replicate (count - done) reply) ≡ reply_line reply ++ text_of (replicate (count - (done + 1)) reply)
same-again count done reply l =
    let e : count - done ≡ suc (count - (done + 1)) = omega arith in
    ap (λ (n : ℕ). text_of (replicate n reply)) e

-- no reply is left
pub no-text : (left : List code.BatchReply) → length left ≤ 0 → text_of (map batch_line_reply (map batch_reply_seen left)) ≡ []
no-text [] l = refl
no-text (reply ∷ replies) l = absurd (omega arith)
