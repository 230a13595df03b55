-- How far tokens leave open what a token before them begins: an expression, or a declaration of variables.
use Rattle.std.proofs.Common.{◌≡◌, inl, inr, [], ◌∷◌, ◌++◌, Option, Some, None, Ok, Err, refl, sym, ap, subst, ◌∙◌}
use Rattle.std.proofs.lemmas.List.{append-nil}
use Rattle.ash_lex.specs.Tokens.{Meaning, name, reserved}
use Rattle.ash_lex.specs.declared.signs.Sign.TheVariants as signs
use Rattle.ash_lex.specs.declared.words.ReservedWord.TheVariants as words
use Rattle.ash_tree.specs.declared.tree.places.Position.{Position}
use Rattle.ash_tree.specs.declared.tree.types.Primitive.{Primitive}
use Rattle.ash_tree.specs.Tree.{Element}
use Rattle.ash_tree.specs.GrammarTokens.{Tokens}
use Rattle.ash_tree.specs.Operators.{primitive}
use Rattle.ash_tree.specs.Types.{IsElement}
use Rattle.ash_parse.specs.Readers.{Unexpected, TooDeep, ParseResult}
use Rattle.ash_parse.specs.TypeReader.{is_array, element_at, after_element}
use Rattle.ash_parse.specs.StatementReader.{is_name, is_vars}
use Rattle.ash_parse.specs.FirstFault.{LeavesOpen}
use Rattle.ash_parse.proofs.Elements.{element_passed}
use Rattle.ash_parse.proofs.BeginLaws.{Explained}
use Rattle.ash_parse.proofs.BeginTypes.{begin_element}
use Rattle.ash_parse.proofs.NeverDeep.{IsUncut, element_uncut}
use Rattle.ash_parse.proofs.Keeps.{IsNoArray, sign_steady}
use Rattle.ash_parse.proofs.SameFaults.{stops_alike}
use Rattle.ash_parse.proofs.Choices.{name_steady, element_lawful, left_of, passed_is_read}

-- of the tokens after `t`, `seen` leave open what it begins, and the first of those after them decides
pub record Opening (t : Meaning × Position) (rest : Tokens) : Type 0 where
  pub seen : Tokens
  pub after : Tokens
  pub all : rest ≡ seen ++ after
  pub leaves : LeavesOpen t seen
  pub decides : (u : Meaning × Position) (more other : Tokens) → after ≡ u ∷ more → is_vars (t ∷ (seen ++ u ∷ more)) ≡ is_vars (t ∷ (seen ++ u ∷ other))

plain_decides : (k : Option Primitive) (m : Meaning) (p : Position) (u : Meaning × Position) (more other : Tokens) → primitive m ≡ k → IsNoArray m → is_vars ((m, p) ∷ u ∷ more) ≡ is_vars ((m, p) ∷ u ∷ other)
unfolding is_vars is_name is_array
plain_decides (Some k) m p u more other e a = rw (e, name_steady u more other []) refl
plain_decides None (name text) p u more other e a = rw (e, name_steady u more other [], sign_steady signs.Handle u more other []) refl
plain_decides None (reserved words.Array) p u more other e a = absurd a
plain_decides None m p u more other e a = rw e refl

plain : (m : Meaning) (p : Position) (rest : Tokens) → IsNoArray m → Opening (m, p) rest
plain m p rest a = record { seen = []; after = rest; all = refl; leaves = inl refl; decides = λ u more other e. plain_decides (primitive m) m p u more other refl a }

same_passed : (p : Position) (u : Meaning × Position) (more other some else : Tokens) → after_element some ≡ Some (u ∷ more) → after_element else ≡ Some (u ∷ other) → is_vars ((reserved words.Array, p) ∷ some) ≡ is_vars ((reserved words.Array, p) ∷ else)
unfolding is_vars is_name is_array primitive
same_passed p u more other some else h k = rw (h, k, name_steady u more other [], sign_steady signs.Handle u more other []) refl

same_stopped : (p : Position) (some else : Tokens) → after_element some ≡ None → after_element else ≡ None → is_vars ((reserved words.Array, p) ∷ some) ≡ is_vars ((reserved words.Array, p) ∷ else)
unfolding is_vars is_name is_array primitive
same_stopped p some else h k = rw (h, k) refl

stopped_decides : (p : Position) (seen : Tokens) (u : Meaning × Position) (more other : Tokens) → element_at (seen ++ u ∷ more) ≡ Err (Unexpected (u ∷ more)) → is_vars ((reserved words.Array, p) ∷ (seen ++ u ∷ more)) ≡ is_vars ((reserved words.Array, p) ∷ (seen ++ u ∷ other))
stopped_decides p seen u more other h =
    let k : element_at (seen ++ u ∷ other) ≡ Err (Unexpected (u ∷ other)) = stops_alike u more other (element_lawful.keeps u more other seen) h in
    same_stopped p (seen ++ u ∷ more) (seen ++ u ∷ other) (passed_is_read (seen ++ u ∷ more) ∙ ap left_of h) (passed_is_read (seen ++ u ∷ other) ∙ ap left_of k)

array_opening : (p : Position) (rest : Tokens) (o : ParseResult Element) → element_at rest ≡ o → Explained o rest (λ free. IsElement) → Opening (reserved words.Array, p) rest
array_opening p rest (Ok y) h e = record {
  seen = e.taken;
  after = y.1;
  all = e.all;
  leaves = inr (refl, [], y.0, e.is 0 []);
  decides = λ u more other g. same_passed p u more other (e.taken ++ u ∷ more) (e.taken ++ u ∷ other) (element_passed (e.is 0 (u ∷ more))) (element_passed (e.is 0 (u ∷ other)));
}
array_opening p rest (Err (Unexpected r)) h s = record {
  seen = s.prefix;
  after = r;
  all = s.all;
  leaves = inr (refl, s.tail, s.tree, subst (λ (l : Tokens). IsElement (s.prefix ++ l) s.tree []) (append-nil s.tail) (s.is []));
  decides = λ u more other g.
      stopped_decides p s.prefix u more other (ap element_at (sym (s.all ∙ ap (λ (l : Tokens). s.prefix ++ l) g)) ∙ h ∙ ap (λ (l : Tokens). Err (Unexpected l)) g);
}
array_opening p rest (Err (TooDeep r)) h e = absurd (subst (λ o. IsUncut o) h (element_uncut rest))

pub opening : (t : Meaning × Position) (rest : Tokens) → Opening t rest
opening (reserved words.Array, p) rest = array_opening p rest (element_at rest) refl (begin_element rest).explained
opening (m, p) rest = plain m p rest tt
