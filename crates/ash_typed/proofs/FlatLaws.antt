-- What is no path begins at itself and has no links, and what is no chain begins with itself and has no operators.
use Rattle.std.proofs.Common.{◌≡◌, refl, sym, subst, []}
use Rattle.std.specs.declared.vec.Vec.{Vec}
use Rattle.std.specs.declared.alloc.Global.{Global}
use Rattle.ash_typed.specs.declared.tree.expressions.Expr as code
use Rattle.ash_typed.specs.declared.tree.expressions.ExprKind as kind_code
use Rattle.ash_typed.specs.declared.tree.expressions.Place as place
use Rattle.ash_typed.specs.declared.tree.expressions.ExprKind.TheOpen as layer
use Rattle.ash_typed.specs.declared.tree.expressions.ExprKind.TheViews as views
use Rattle.ash_typed.specs.declared.tree.expressions.Link as link
use Rattle.ash_typed.specs.declared.tree.expressions.Operand as operand
use Rattle.ash_typed.specs.declared.tree.operations.Lazy.{Lazy}
use Rattle.ash_typed.specs.declared.tree.operations.Lazy.TheVariants as lazies
use Rattle.ash_typed.specs.Flat.{base_in, links_in, first_in, operands_in, others_in}

-- a layer of an expression
abbrev Layer : Type 0
Layer = layer.ExprKind-F kind_code.ExprKind link.Link place.Place code.Expr operand.Operand

abbrev IsNoPath : kind_code.ExprKind → Type 0
IsNoPath e = (base : code.Expr) (ls : Vec link.Link Global) → e ≡ views.Path base ls → ⊥

no_links : (e : Layer) → IsNoPath (views.roll-ExprKind e) → links_in (views.roll-ExprKind e) ≡ []
unfolding kind_code.roll-ExprKind denote.Hole.Carrier.roll
no_links (layer.Path base ls) h = absurd (h base ls (sym (views.rolls-Path base ls)))
no_links _ h = refl

pub links_in-other : (e : kind_code.ExprKind) → IsNoPath e → links_in e ≡ []
links_in-other e h =
    subst (λ (x : kind_code.ExprKind). IsNoPath x → links_in x ≡ []) (views.roll-out-ExprKind e) (no_links (views.out-ExprKind e)) h

own_base : (e : Layer) → IsNoPath (views.roll-ExprKind e) → base_in (views.roll-ExprKind e) ≡ views.roll-ExprKind e
unfolding kind_code.roll-ExprKind denote.Hole.Carrier.roll
own_base (layer.Path base ls) h = absurd (h base ls (sym (views.rolls-Path base ls)))
own_base _ h = refl

pub base_in-other : (e : kind_code.ExprKind) → IsNoPath e → base_in e ≡ e
base_in-other e h =
    subst (λ (x : kind_code.ExprKind). IsNoPath x → base_in x ≡ x) (views.roll-out-ExprKind e) (own_base (views.out-ExprKind e)) h

abbrev IsNoChain : kind_code.ExprKind → Type 0
IsNoChain e = (first : code.Expr) (os : Vec operand.Operand Global) → e ≡ views.Chain first os → ⊥

no_operands : (e : Layer) → IsNoChain (views.roll-ExprKind e) → operands_in (views.roll-ExprKind e) ≡ []
unfolding kind_code.roll-ExprKind denote.Hole.Carrier.roll
no_operands (layer.Chain first os) h = absurd (h first os (sym (views.rolls-Chain first os)))
no_operands _ h = refl

pub operands_in-other : (e : kind_code.ExprKind) → IsNoChain e → operands_in e ≡ []
operands_in-other e h =
    subst (λ (x : kind_code.ExprKind). IsNoChain x → operands_in x ≡ []) (views.roll-out-ExprKind e) (no_operands (views.out-ExprKind e))
    h

own_first : (e : Layer) → IsNoChain (views.roll-ExprKind e) → first_in (views.roll-ExprKind e) ≡ views.roll-ExprKind e
unfolding kind_code.roll-ExprKind denote.Hole.Carrier.roll
own_first (layer.Chain first os) h = absurd (h first os (sym (views.rolls-Chain first os)))
own_first _ h = refl

pub first_in-other : (e : kind_code.ExprKind) → IsNoChain e → first_in e ≡ e
first_in-other e h =
    subst (λ (x : kind_code.ExprKind). IsNoChain x → first_in x ≡ x) (views.roll-out-ExprKind e) (own_first (views.out-ExprKind e)) h

abbrev IsNotLazy : kind_code.ExprKind → Type 0
IsNotLazy e = (op : Lazy) (first : code.Expr) (es : Vec code.Expr Global) → e ≡ views.Lazy op first es → ⊥

no_others : (op : Lazy) (e : Layer) → IsNotLazy (views.roll-ExprKind e) → others_in op (views.roll-ExprKind e) ≡ []
unfolding kind_code.roll-ExprKind denote.Hole.Carrier.roll
no_others op (layer.Lazy before first es) h = absurd (h before first es (sym (views.rolls-Lazy before first es)))
no_others lazies.And _ h = refl
no_others lazies.Or _ h = refl

pub others_in-other : (op : Lazy) (e : kind_code.ExprKind) → IsNotLazy e → others_in op e ≡ []
others_in-other op e h =
    subst (λ (x : kind_code.ExprKind). IsNotLazy x → others_in op x ≡ []) (views.roll-out-ExprKind e)
    (no_others op (views.out-ExprKind e)) h
