-- Reading modules and registered declarations, one function for each phrase.
use Rattle.std.specs.Prelude.{ℕ, List, [], ◌∷◌, Bool, true, false, Option, Some, None, Ok, Err, if◌then◌else◌}
use Rattle.ash_lex.specs.Tokens.{Meaning, reserved}
use Rattle.ash_lex.specs.declared.signs.Sign.TheVariants as signs
use Rattle.ash_lex.specs.declared.words.ReservedWord.TheVariants as words
use Rattle.ash_tree.specs.declared.tree.places.Position.{Position}
use Rattle.ash_tree.specs.Tree.{Named, TypeName, Vars, Stmt, Parameter, Function, Constructor, Member, AMethod}
use Rattle.ash_tree.specs.Tree.{AField, AConstructor, Class, InterfaceMethod, Interface, Item, AClass, AnInterface}
use Rattle.ash_tree.specs.Tree.{AFunction, AGlobal, Declaration, ASignature, AProperty}
use Rattle.ash_tree.specs.GrammarTokens.{Tokens}
use Rattle.ash_tree.specs.Expressions.{max_depth}
use Rattle.ash_parse.specs.SignTokens.{is_sign}
use Rattle.ash_parse.specs.Readers.{ParseResult, Unexpected, ◌>>=◌, put, loop, next_is_sign, expect_at, name_at}
use Rattle.ash_parse.specs.TypeReader.{is_array, after_element}
use Rattle.ash_parse.specs.ExpressionReader.{below_at}
use Rattle.ash_parse.specs.StatementReader.{next_is_name, type_at, is_vars, vars_statement_with, goes_on, block_with}
use Rattle.ash_parse.specs.StatementReader.{nested_at}

unfoldable pub is_void : Meaning → Bool
is_void (reserved words.Void) = true
is_void _ = false

unfoldable pub is_class : Meaning → Bool
is_class (reserved words.Class) = true
is_class _ = false

unfoldable pub is_interface : Meaning → Bool
is_interface (reserved words.Interface) = true
is_interface _ = false

-- rtype
unfoldable pub result_type_at : Tokens → ParseResult (Option Named)
result_type_at [] = Err (Unexpected [])
result_type_at ((m, p) ∷ ts) = if is_void m then Ok (None, ts) else (type_at ((m, p) ∷ ts) >>= λ t. Ok (Some t.0, t.1))

-- type NAME
unfoldable pub parameter_at : Tokens → ParseResult Parameter
parameter_at ts = do
  t ← type_at ts
  n ← name_at t.1
  Ok (record { of = t.0; place = (n.0).1; name = (n.0).0 }, n.1)

unfoldable pub next_parameter_at : Tokens → ParseResult Parameter
next_parameter_at ts = do
  comma ← expect_at signs.Comma ts
  parameter_at comma.1

unfoldable pub more_parameters_at : Tokens → ParseResult (List Parameter)
more_parameters_at ts = loop (next_is_sign signs.Comma) next_parameter_at ts

-- [ type NAME { "," type NAME } ] before a ")"
unfoldable pub parameter_list_at : Tokens → ParseResult (List Parameter)
parameter_list_at ts =
    if next_is_sign signs.CloseParenthesis ts then Ok ([], ts)
    else (parameter_at ts >>= λ x. put x.0 (more_parameters_at x.1))

unfoldable pub parameters_at : Tokens → ParseResult (List Parameter)
parameters_at ts = do
  o ← expect_at signs.OpenParenthesis ts
  xs ← parameter_list_at o.1
  z ← expect_at signs.CloseParenthesis xs.1
  Ok (xs.0, z.1)

-- the body of a function
unfoldable pub body_at : Tokens → ParseResult (List Stmt)
body_at ts = block_with (below_at max_depth) (nested_at max_depth) ts

unfoldable pub function_at : Tokens → ParseResult Function
function_at ts = do
  r ← result_type_at ts
  n ← name_at r.1
  xs ← parameters_at n.1
  b ← body_at xs.1
  Ok (record { place = (n.0).1; result = r.0; name = (n.0).0; parameters = xs.0; body = b.0 }, b.1)

-- vars ";" outside functions
unfoldable pub globals_at : Tokens → ParseResult Vars
globals_at ts = vars_statement_with (below_at max_depth) ts

-- all but the first token
unfoldable pub without_first : Tokens → Tokens
without_first [] = []
without_first (t ∷ ts) = ts

-- after the "(" of a function's parameters, and not of arguments
unfoldable pub opens_body : Tokens → Bool
opens_body [] = false
opens_body ((m, p) ∷ ts) = if is_sign signs.CloseParenthesis m then next_is_sign signs.OpenBrace ts else false

-- NAME "(" and what begins parameters
unfoldable pub names_function : Tokens → Bool
names_function ts =
    if next_is_name ts then (if next_is_sign signs.OpenParenthesis (without_first ts)
    then (if is_vars (without_first (without_first ts)) then true else opens_body (without_first (without_first ts)))
    else false) else false

-- ["@"], and after it NAME "(" and what begins parameters
unfoldable pub handle_names_function : Tokens → Bool
handle_names_function ts = if next_is_sign signs.Handle ts then names_function (without_first ts) else names_function ts

abbrev pub array_names_function : Option Tokens → Bool
array_names_function None = false
array_names_function (Some ts) = handle_names_function ts

-- the tokens begin a function, and no declaration of variables
unfoldable pub is_function : Tokens → Bool
is_function [] = false
is_function ((m, p) ∷ ts) =
    if is_void m then true
    else (if is_array m then array_names_function (after_element ts) else handle_names_function ts)

unfoldable pub is_constructor : Tokens → Bool
is_constructor ts = if next_is_name ts then next_is_sign signs.OpenParenthesis (without_first ts) else false

unfoldable pub constructor_at : Tokens → ParseResult Constructor
constructor_at ts = do
  n ← name_at ts
  xs ← parameters_at n.1
  b ← body_at xs.1
  Ok (record { place = (n.0).1; name = (n.0).0; parameters = xs.0; body = b.0 }, b.1)

unfoldable pub member_at : Tokens → ParseResult Member
member_at ts =
    if is_constructor ts then (constructor_at ts >>= λ f. Ok (AConstructor f.0, f.1))
    else (if is_function ts then (function_at ts >>= λ f. Ok (AMethod f.0, f.1))
    else (globals_at ts >>= λ v. Ok (AField v.0, v.1)))

unfoldable pub members_at : Tokens → ParseResult (List Member)
members_at ts = loop goes_on member_at ts

-- "," NAME
unfoldable pub next_interface_at : Tokens → ParseResult TypeName
next_interface_at ts = do
  comma ← expect_at signs.Comma ts
  n ← name_at comma.1
  Ok (record { place = (n.0).1; name = (n.0).0 }, n.1)

unfoldable pub more_interfaces_at : Tokens → ParseResult (List TypeName)
more_interfaces_at ts = loop (next_is_sign signs.Comma) next_interface_at ts

-- NAME { "," NAME }
unfoldable pub listed_interfaces_at : Tokens → ParseResult (List TypeName)
listed_interfaces_at ts = name_at ts >>= λ n. put (record { place = (n.0).1; name = (n.0).0 }) (more_interfaces_at n.1)

-- [ ":" NAME { "," NAME } ]
unfoldable pub interfaces_at : Tokens → ParseResult (List TypeName)
interfaces_at ts =
    if next_is_sign signs.Colon ts then (expect_at signs.Colon ts >>= λ c. listed_interfaces_at c.1) else Ok ([], ts)

-- a class after the word `class`
unfoldable pub class_at : Tokens → ParseResult Class
class_at ts = do
  n ← name_at ts
  is ← interfaces_at n.1
  o ← expect_at signs.OpenBrace is.1
  xs ← members_at o.1
  z ← expect_at signs.CloseBrace xs.1
  Ok (record { place = (n.0).1; name = (n.0).0; interfaces = is.0; members = xs.0 }, z.1)

-- rtype NAME params ";"
unfoldable pub interface_method_at : Tokens → ParseResult InterfaceMethod
interface_method_at ts = do
  r ← result_type_at ts
  n ← name_at r.1
  xs ← parameters_at n.1
  z ← expect_at signs.Semicolon xs.1
  Ok (record { place = (n.0).1; result = r.0; name = (n.0).0; parameters = xs.0 }, z.1)

unfoldable pub interface_methods_at : Tokens → ParseResult (List InterfaceMethod)
interface_methods_at ts = loop goes_on interface_method_at ts

-- an interface after the word `interface`
unfoldable pub interface_at : Tokens → ParseResult Interface
interface_at ts = do
  n ← name_at ts
  o ← expect_at signs.OpenBrace n.1
  xs ← interface_methods_at o.1
  z ← expect_at signs.CloseBrace xs.1
  Ok (record { place = (n.0).1; name = (n.0).0; methods = xs.0 }, z.1)

-- a function or variables, whichever the tokens begin
abbrev pub other_item_at : Tokens → ParseResult Item
other_item_at ts =
    if is_function ts then (function_at ts >>= λ f. Ok (AFunction f.0, f.1))
    else (globals_at ts >>= λ v. Ok (AGlobal v.0, v.1))

unfoldable pub item_at : Tokens → ParseResult Item
item_at [] = Err (Unexpected [])
item_at ((m, p) ∷ ts) =
    if is_class m then (class_at ts >>= λ c. Ok (AClass c.0, c.1))
    else (if is_interface m then (interface_at ts >>= λ i. Ok (AnInterface i.0, i.1)) else other_item_at ((m, p) ∷ ts))

-- the tokens after each ";" that they begin with
unfoldable pub strip : Tokens → Tokens
strip [] = []
strip ((m, p) ∷ ts) = if is_sign signs.Semicolon m then strip ts else (m, p) ∷ ts

-- an item, and each ";" after it
unfoldable pub entry_at : Tokens → ParseResult Item
entry_at ts = item_at ts >>= λ x. Ok (x.0, strip x.1)

unfoldable pub is_left : Tokens → Bool
is_left [] = false
is_left (t ∷ ts) = true

unfoldable pub entries_at : Tokens → ParseResult (List Item)
entries_at ts = loop is_left entry_at ts

-- a module
unfoldable pub module_at : Tokens → ParseResult (List Item)
module_at ts = entries_at (strip ts)

-- type [NAME]
unfoldable pub unnamed_at : Tokens → ParseResult Named
unnamed_at ts = type_at ts >>= λ t. Ok (t.0, if next_is_name t.1 then without_first t.1 else t.1)

unfoldable pub next_unnamed_at : Tokens → ParseResult Named
next_unnamed_at ts = do
  comma ← expect_at signs.Comma ts
  unnamed_at comma.1

unfoldable pub more_unnamed_at : Tokens → ParseResult (List Named)
more_unnamed_at ts = loop (next_is_sign signs.Comma) next_unnamed_at ts

unfoldable pub unnamed_list_at : Tokens → ParseResult (List Named)
unnamed_list_at ts =
    if next_is_sign signs.CloseParenthesis ts then Ok ([], ts)
    else (unnamed_at ts >>= λ x. put x.0 (more_unnamed_at x.1))

-- "(" [ type [NAME] { "," type [NAME] } ] ")"
unfoldable pub unnamed_parameters_at : Tokens → ParseResult (List Named)
unnamed_parameters_at ts = do
  o ← expect_at signs.OpenParenthesis ts
  xs ← unnamed_list_at o.1
  z ← expect_at signs.CloseParenthesis xs.1
  Ok (xs.0, z.1)

-- what is registered is a property, if it has a type
abbrev pub property_by : Option Named → Position → List ℕ → Tokens → ParseResult Declaration
property_by (Some t) p text ts = Ok (AProperty (record { place = p; of = t; name = text }), ts)
property_by None p text ts = Err (Unexpected ts)

-- what is after the name of a declaration
unfoldable pub declaration_after : Option Named → Position → List ℕ → Tokens → ParseResult Declaration
declaration_after r p text ts =
    if next_is_sign signs.OpenParenthesis ts then (unnamed_parameters_at ts
    >>= λ xs. Ok (ASignature (record { place = p; result = r; name = text; parameters = xs.0 }), xs.1))
    else property_by r p text ts

unfoldable pub declaration_at : Tokens → ParseResult Declaration
declaration_at ts = do
  r ← result_type_at ts
  n ← name_at r.1
  declaration_after r.0 (n.0).1 (n.0).0 n.1
