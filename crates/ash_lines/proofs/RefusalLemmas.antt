-- The text of a refusal, by what the code returns for it.
use Rattle.std.proofs.Common.{◌≡◌, ◌∙◌, ℕ, List, Result, Ok, Err, refl, sym, ap}
use Rattle.ash_requests.specs.RefusalCodes.{code_of}
use Rattle.ash_requests.specs.RequestViews.{refusal_seen}
use Rattle.ash_requests.specs.declared.refusal.Refusal.{Refusal}
use Rattle.ash_requests.specs.declared.refusal.Refusal.TheVariants as refusals
use Rattle.ash_sources.specs.SourceFaults.{fault_of}
use Rattle.ash_sources.specs.declared.fault.SourceFault.{SourceFault as CodeFault}
use Rattle.ash_lines.specs.RefusalTexts.{label_text, fault_text, refusal_text}

-- the text of what is returned: a code, or a source's fault
abbrev text_seen : Result (List ℕ) CodeFault → List ℕ
text_seen (Ok code) = label_text code
text_seen (Err fault) = fault_text (fault_of fault)

coded : (r : Refusal CodeFault) → refusal_text (refusal_seen fault_of r)
    ≡ text_seen (code_of (refusal_seen (λ fault. fault) r))
coded (refusals.BadSource fault) = refl
coded refusals.NoModule = refl
coded refusals.ModuleTaken = refl
coded refusals.NoFunction = refl
coded refusals.NotCallable = refl
coded refusals.BadArguments = refl
coded refusals.NoGlobal = refl
coded refusals.NoObject = refl
coded refusals.TooManyModules = refl
coded refusals.BadName = refl
coded refusals.SequenceSpent = refl
coded refusals.DeviceFailed = refl
coded refusals.Reopen = refl
coded refusals.NoMemory = refl
coded refusals.GenerationSpent = refl

pub text_by_code : (r : Refusal CodeFault) (text : List ℕ) → Ok text ≡ code_of (refusal_seen (λ fault. fault) r)
    → label_text text ≡ refusal_text (refusal_seen fault_of r)
text_by_code r text e = ap text_seen e ∙ sym (coded r)

pub text_by_fault : (r : Refusal CodeFault) (fault : CodeFault)
    → Err fault ≡ code_of (refusal_seen (λ f. f) r)
    → fault_text (fault_of fault) ≡ refusal_text (refusal_seen fault_of r)
text_by_fault r fault e = ap text_seen e ∙ sym (coded r)
