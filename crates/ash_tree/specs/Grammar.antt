-- The grammar of modules and of registered declarations, one case for each production:
--
--   module   = { ";" | class | interface | function | vars ";" }
--   class    = "class" NAME [ ":" NAME { "," NAME } ] "{" { member } "}"
--   member   = function | vars ";" | NAME params block
--   interface = "interface" NAME "{" { rtype NAME params ";" } "}"
--   function = rtype NAME params block
--   params   = "(" [ type NAME { "," type NAME } ] ")"
--   rtype    = "void" | type
--   declaration = rtype NAME "(" [ type [NAME] { "," type [NAME] } ] ")" | type NAME
use Rattle.std.specs.Prelude.{ℕ, List, [], ◌∷◌, Option, Some, None}
use Rattle.ash_lex.specs.Tokens.{name, sign, reserved}
use Rattle.ash_lex.specs.declared.signs.Sign.TheVariants as signs
use Rattle.ash_lex.specs.declared.words.ReservedWord.TheVariants as words
use Rattle.ash_tree.specs.declared.tree.places.Position.{Position}
use Rattle.ash_tree.specs.Tree.{Named, TypeName, Vars, Stmt, Parameter, Function, Member, AMethod, AField, AConstructor}
use Rattle.ash_tree.specs.Tree.{Class, InterfaceMethod, Interface, Item, AClass, AnInterface, AFunction, AGlobal}
use Rattle.ash_tree.specs.Tree.{Declaration, ASignature, AProperty}
use Rattle.ash_tree.specs.GrammarTokens.{Tokens}
use Rattle.ash_tree.specs.Types.{IsType}
use Rattle.ash_tree.specs.Statements.{IsVars, IsBlock}

-- rtype = "void" | type
pub data IsResultType : Tokens → Option Named → Tokens → Type 0 where
  void : {p : Position} {left : Tokens} → IsResultType ((reserved words.Void, p) ∷ left) None left
  typed : {from left : Tokens} {t : Named} → IsType from t left → IsResultType from (Some t) left

-- type NAME
pub data IsParameter : Tokens → Parameter → Tokens → Type 0 where
  parameter : {p : Position} {text : List ℕ} {from left : Tokens} {t : Named} → IsType from t ((name text, p) ∷ left)
      → IsParameter from (record { of = t; place = p; name = text }) left

-- { "," type NAME }
pub data AreMoreParameters : Tokens → List Parameter → Tokens → Type 0 where
  no_more_parameters : {left : Tokens} → AreMoreParameters left [] left
  more_parameters : {p : Position} {from after left : Tokens} {x : Parameter} {xs : List Parameter}
      → IsParameter from x after → AreMoreParameters after xs left
      → AreMoreParameters ((sign signs.Comma, p) ∷ from) (x ∷ xs) left

-- params = "(" [ type NAME { "," type NAME } ] ")"
pub data AreParameters : Tokens → List Parameter → Tokens → Type 0 where
  no_parameters : {p q : Position} {left : Tokens}
      → AreParameters ((sign signs.OpenParenthesis, p) ∷ (sign signs.CloseParenthesis, q) ∷ left) [] left
  parameters : {p q : Position} {from after left : Tokens} {x : Parameter} {xs : List Parameter}
      → IsParameter from x after → AreMoreParameters after xs ((sign signs.CloseParenthesis, q) ∷ left)
      → AreParameters ((sign signs.OpenParenthesis, p) ∷ from) (x ∷ xs) left

-- function = rtype NAME params block
pub data IsFunction : ℕ → Tokens → Function → Tokens → Type 0 where
  function : {free : ℕ} {p : Position} {text : List ℕ} {from after inside left : Tokens} {r : Option Named}
      {xs : List Parameter} {body : List Stmt} → IsResultType from r ((name text, p) ∷ after)
      → AreParameters after xs inside → IsBlock free 0 inside body left
      → IsFunction free from (record { place = p; result = r; name = text; parameters = xs; body = body }) left

-- member = function | vars ";" | NAME params block
pub data IsMember : ℕ → Tokens → Member → Tokens → Type 0 where
  method : {free : ℕ} {from left : Tokens} {f : Function} → IsFunction free from f left
      → IsMember free from (AMethod f) left
  fields : {free : ℕ} {p : Position} {from left : Tokens} {v : Vars}
      → IsVars free 0 from v ((sign signs.Semicolon, p) ∷ left) → IsMember free from (AField v) left
  constructor : {free : ℕ} {p : Position} {text : List ℕ} {from inside left : Tokens} {xs : List Parameter}
      {body : List Stmt} → AreParameters from xs inside → IsBlock free 0 inside body left
      → IsMember free ((name text, p) ∷ from) (AConstructor
      (record { place = p; name = text; parameters = xs; body = body })) left

-- { member }
pub data AreMembers : ℕ → Tokens → List Member → Tokens → Type 0 where
  no_members : {free : ℕ} {left : Tokens} → AreMembers free left [] left
  more_members : {free : ℕ} {from after left : Tokens} {x : Member} {xs : List Member} → IsMember free from x after
      → AreMembers free after xs left → AreMembers free from (x ∷ xs) left

-- { "," NAME }
pub data AreMoreInterfaces : Tokens → List TypeName → Tokens → Type 0 where
  no_more_interfaces : {left : Tokens} → AreMoreInterfaces left [] left
  more_interfaces : {p q : Position} {text : List ℕ} {after left : Tokens} {xs : List TypeName}
      → AreMoreInterfaces after xs left → AreMoreInterfaces ((sign signs.Comma, p) ∷ (name text, q) ∷ after)
      (record { place = q; name = text } ∷ xs) left

-- [ ":" NAME { "," NAME } ]
pub data AreInterfaces : Tokens → List TypeName → Tokens → Type 0 where
  no_interfaces : {left : Tokens} → AreInterfaces left [] left
  interfaces : {p q : Position} {text : List ℕ} {after left : Tokens} {xs : List TypeName}
      → AreMoreInterfaces after xs left → AreInterfaces ((sign signs.Colon, p) ∷ (name text, q) ∷ after)
      (record { place = q; name = text } ∷ xs) left

-- class = "class" NAME [ ":" NAME { "," NAME } ] "{" { member } "}"
pub data IsClass : ℕ → Tokens → Class → Tokens → Type 0 where
  class : {free : ℕ} {p q o z : Position} {text : List ℕ} {after from left : Tokens} {is : List TypeName}
      {xs : List Member} → AreInterfaces after is ((sign signs.OpenBrace, o) ∷ from)
      → AreMembers free from xs ((sign signs.CloseBrace, z) ∷ left)
      → IsClass free ((reserved words.Class, p) ∷ (name text, q) ∷ after)
      (record { place = q; name = text; interfaces = is; members = xs }) left

-- rtype NAME params ";"
pub data IsInterfaceMethod : Tokens → InterfaceMethod → Tokens → Type 0 where
  interface_method : {p q : Position} {text : List ℕ} {from after left : Tokens} {r : Option Named}
      {xs : List Parameter}
      → IsResultType from r ((name text, p) ∷ after) → AreParameters after xs ((sign signs.Semicolon, q) ∷ left)
      → IsInterfaceMethod from (record { place = p; result = r; name = text; parameters = xs }) left

-- { rtype NAME params ";" }
pub data AreInterfaceMethods : Tokens → List InterfaceMethod → Tokens → Type 0 where
  no_interface_methods : {left : Tokens} → AreInterfaceMethods left [] left
  more_interface_methods : {from after left : Tokens} {x : InterfaceMethod} {xs : List InterfaceMethod}
      → IsInterfaceMethod from x after → AreInterfaceMethods after xs left → AreInterfaceMethods from (x ∷ xs) left

-- interface = "interface" NAME "{" { rtype NAME params ";" } "}"
pub data IsInterface : Tokens → Interface → Tokens → Type 0 where
  interface : {p q o z : Position} {text : List ℕ} {from left : Tokens} {xs : List InterfaceMethod}
      → AreInterfaceMethods from xs ((sign signs.CloseBrace, z) ∷ left)
      → IsInterface ((reserved words.Interface, p) ∷ (name text, q) ∷ (sign signs.OpenBrace, o) ∷ from)
      (record { place = q; name = text; methods = xs }) left

-- class | interface | function | vars ";"
pub data IsItem : ℕ → Tokens → Item → Tokens → Type 0 where
  a_class : {free : ℕ} {from left : Tokens} {c : Class} → IsClass free from c left → IsItem free from (AClass c) left
  an_interface : {free : ℕ} {from left : Tokens} {i : Interface} → IsInterface from i left
      → IsItem free from (AnInterface i) left
  a_function : {free : ℕ} {from left : Tokens} {f : Function} → IsFunction free from f left
      → IsItem free from (AFunction f) left
  globals : {free : ℕ} {p : Position} {from left : Tokens} {v : Vars}
      → IsVars free 0 from v ((sign signs.Semicolon, p) ∷ left) → IsItem free from (AGlobal v) left

-- module = { ";" | class | interface | function | vars ";" }: all of the tokens are those of a module with these items
pub data Derives : ℕ → Tokens → List Item → Type 0 where
  no_items : {free : ℕ} → Derives free [] []
  semicolon : {free : ℕ} {p : Position} {from : Tokens} {xs : List Item} → Derives free from xs
      → Derives free ((sign signs.Semicolon, p) ∷ from) xs
  item : {free : ℕ} {from after : Tokens} {x : Item} {xs : List Item} → IsItem free from x after → Derives free after xs
      → Derives free from (x ∷ xs)

-- type [NAME]
pub data IsUnnamed : Tokens → Named → Tokens → Type 0 where
  unnamed : {from left : Tokens} {t : Named} → IsType from t left → IsUnnamed from t left
  with_name : {p : Position} {text : List ℕ} {from left : Tokens} {t : Named} → IsType from t ((name text, p) ∷ left)
      → IsUnnamed from t left

-- { "," type [NAME] }
pub data AreMoreUnnamed : Tokens → List Named → Tokens → Type 0 where
  no_more_unnamed : {left : Tokens} → AreMoreUnnamed left [] left
  more_unnamed : {p : Position} {from after left : Tokens} {x : Named} {xs : List Named} → IsUnnamed from x after
      → AreMoreUnnamed after xs left → AreMoreUnnamed ((sign signs.Comma, p) ∷ from) (x ∷ xs) left

-- "(" [ type [NAME] { "," type [NAME] } ] ")"
pub data AreUnnamed : Tokens → List Named → Tokens → Type 0 where
  no_unnamed : {p q : Position} {left : Tokens}
      → AreUnnamed ((sign signs.OpenParenthesis, p) ∷ (sign signs.CloseParenthesis, q) ∷ left) [] left
  some_unnamed : {p q : Position} {from after left : Tokens} {x : Named} {xs : List Named} → IsUnnamed from x after
      → AreMoreUnnamed after xs ((sign signs.CloseParenthesis, q) ∷ left)
      → AreUnnamed ((sign signs.OpenParenthesis, p) ∷ from) (x ∷ xs) left

-- declaration = rtype NAME "(" [ type [NAME] { "," type [NAME] } ] ")" | type NAME: all of the tokens
pub data Declares : Tokens → Declaration → Type 0 where
  signature : {p : Position} {text : List ℕ} {from after : Tokens} {r : Option Named} {xs : List Named}
      → IsResultType from r ((name text, p) ∷ after) → AreUnnamed after xs []
      → Declares from (ASignature (record { place = p; result = r; name = text; parameters = xs }))
  property : {p : Position} {text : List ℕ} {from : Tokens} {t : Named} → IsType from t ((name text, p) ∷ [])
      → Declares from (AProperty (record { place = p; of = t; name = text }))
