-- These definitions say how the words that are no names are written.
use Rattle.std.specs.Prelude.{ℕ, List, codes}
use Rattle.ash_lex.specs.declared.words.ReservedWord.{ReservedWord}
use Rattle.ash_lex.specs.declared.words.ReservedWord.TheVariants.{And, Or, Xor, Not, Is, Null, True, False, Void, Bool}
use Rattle.ash_lex.specs.declared.words.ReservedWord.TheVariants.{Int, Int32, Int64, Uint, Uint32, Uint64, Class}
use Rattle.ash_lex.specs.declared.words.ReservedWord.TheVariants.{Interface, Cast, Array, This, If, Else, While, Do}
use Rattle.ash_lex.specs.declared.words.ReservedWord.TheVariants.{For, Switch, Case, Default, Break, Continue, Return}
use Rattle.ash_lex.specs.declared.words.UnsupportedWord.{UnsupportedWord}
use Rattle.ash_lex.specs.declared.words.UnsupportedWord.TheVariants.{Auto, Catch, Const, Double, Enum, Float, Funcdef}
use Rattle.ash_lex.specs.declared.words.UnsupportedWord.TheVariants.{Import, In, Inout, Int8, Int16, Mixin, Namespace}
use Rattle.ash_lex.specs.declared.words.UnsupportedWord.TheVariants.{Out, Private, Protected, Try, Typedef, Uint8}
use Rattle.ash_lex.specs.declared.words.UnsupportedWord.TheVariants.{Uint16}

-- `reserved_text w` are the characters of a reserved word.
abbrev pub reserved_text : ReservedWord → List ℕ
reserved_text And = codes "and"
reserved_text Or = codes "or"
reserved_text Xor = codes "xor"
reserved_text Not = codes "not"
reserved_text Is = codes "is"
reserved_text Null = codes "null"
reserved_text True = codes "true"
reserved_text False = codes "false"
reserved_text Void = codes "void"
reserved_text Bool = codes "bool"
reserved_text Int = codes "int"
reserved_text Int32 = codes "int32"
reserved_text Int64 = codes "int64"
reserved_text Uint = codes "uint"
reserved_text Uint32 = codes "uint32"
reserved_text Uint64 = codes "uint64"
reserved_text Class = codes "class"
reserved_text Interface = codes "interface"
reserved_text Cast = codes "cast"
reserved_text Array = codes "array"
reserved_text This = codes "this"
reserved_text If = codes "if"
reserved_text Else = codes "else"
reserved_text While = codes "while"
reserved_text Do = codes "do"
reserved_text For = codes "for"
reserved_text Switch = codes "switch"
reserved_text Case = codes "case"
reserved_text Default = codes "default"
reserved_text Break = codes "break"
reserved_text Continue = codes "continue"
reserved_text Return = codes "return"

-- `unsupported_text w` are the characters of an unsupported word.
abbrev pub unsupported_text : UnsupportedWord → List ℕ
unsupported_text Auto = codes "auto"
unsupported_text Catch = codes "catch"
unsupported_text Const = codes "const"
unsupported_text Double = codes "double"
unsupported_text Enum = codes "enum"
unsupported_text Float = codes "float"
unsupported_text Funcdef = codes "funcdef"
unsupported_text Import = codes "import"
unsupported_text In = codes "in"
unsupported_text Inout = codes "inout"
unsupported_text Int8 = codes "int8"
unsupported_text Int16 = codes "int16"
unsupported_text Mixin = codes "mixin"
unsupported_text Namespace = codes "namespace"
unsupported_text Out = codes "out"
unsupported_text Private = codes "private"
unsupported_text Protected = codes "protected"
unsupported_text Try = codes "try"
unsupported_text Typedef = codes "typedef"
unsupported_text Uint8 = codes "uint8"
unsupported_text Uint16 = codes "uint16"
