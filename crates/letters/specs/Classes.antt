-- Letters that name a convention, a class or qualifiers: each has one stated outcome. Values are the crate's bits and the places of its enums.
-- Assumes nothing: these are definitions.
use Rattle.std.specs.Prelude.{ℕ, ◌+◌, List, [], ◌∷◌, drop, leb, Ok, Err}
use Prim.Native.Char.{code}
use Prim.Native.String.{String}
use Rattle.scan.specs.Bytes.{pick, bytes, starts, spelled, up_to}
use Rattle.scan.specs.Number.{read_number}
use Rattle.letters.specs.StorageClass.{CONST, VOLATILE, FAR, UNALIGNED, RESTRICT, PTR64, LVALUE_QUAL, RVALUE_QUAL}
use Rattle.letters.specs.FuncClass as func
use Rattle.scan.specs.Cursor.{Leaf, value}
use Rattle.letters.specs.declared.Class.{Class}

abbrev pub Cdecl : ℕ
Cdecl = 0

abbrev pub Pascal : ℕ
Pascal = 1

abbrev pub Thiscall : ℕ
Thiscall = 2

abbrev pub Stdcall : ℕ
Stdcall = 3

abbrev pub Fastcall : ℕ
Fastcall = 4

-- read_calling_conv
abbrev pub conventions : List (String × ℕ)
conventions = ("A", Cdecl) ∷ ("B", Cdecl) ∷ ("C", Pascal) ∷ ("E", Thiscall) ∷ ("G", Stdcall) ∷ ("I", Fastcall) ∷ []

unfoldable pub read_calling_conv : List ℕ → Leaf
read_calling_conv r = spelled value conventions (Err (up_to 1 r)) r

-- the letter of read_func_class; D and F lack FAR, as in the crate
abbrev pub func_classes : List (String × ℕ)
func_classes =
    ("A", func.PRIVATE) ∷ ("B", func.PRIVATE + func.FAR)
    ∷ ("C", func.PRIVATE + func.STATIC) ∷ ("D", func.PRIVATE + func.STATIC)
    ∷ ("E", func.PRIVATE + func.VIRTUAL) ∷ ("F", func.PRIVATE + func.VIRTUAL)
    ∷ ("G", func.PRIVATE + func.VIRTUAL + func.THUNK) ∷ ("H", func.PRIVATE + func.VIRTUAL + func.FAR + func.THUNK)
    ∷ ("I", func.PROTECTED) ∷ ("J", func.PROTECTED + func.FAR)
    ∷ ("K", func.PROTECTED + func.STATIC) ∷ ("L", func.PROTECTED + func.STATIC + func.FAR)
    ∷ ("M", func.PROTECTED + func.VIRTUAL) ∷ ("N", func.PROTECTED + func.VIRTUAL + func.FAR)
    ∷ ("O", func.PROTECTED + func.VIRTUAL + func.THUNK) ∷ ("P", func.PROTECTED + func.VIRTUAL + func.FAR + func.THUNK)
    ∷ ("Q", func.PUBLIC) ∷ ("R", func.PUBLIC + func.FAR)
    ∷ ("S", func.PUBLIC + func.STATIC) ∷ ("T", func.PUBLIC + func.STATIC + func.FAR)
    ∷ ("U", func.PUBLIC + func.VIRTUAL) ∷ ("V", func.PUBLIC + func.VIRTUAL + func.FAR)
    ∷ ("W", func.PUBLIC + func.VIRTUAL + func.THUNK) ∷ ("X", func.PUBLIC + func.VIRTUAL + func.FAR + func.THUNK)
    ∷ ("Y", func.GLOBAL) ∷ ("Z", func.GLOBAL + func.FAR) ∷ []

unfoldable pub func_class_letter : List ℕ → Leaf
func_class_letter r = spelled value func_classes (Err (up_to 1 r)) r

-- read_func_class: a thunk reads an adjustment behind its letter, and no other class does
abbrev pub adjusted : ℕ → Leaf → Leaf
adjusted bits (Ok (v, n)) = Ok (bits, n + 1)
adjusted bits (Err n) = Err (n + 1)

abbrev pub classed : List ℕ → Leaf → Leaf
classed rest (Ok (bits, n)) = pick (leb func.THUNK bits) (adjusted bits (read_number rest)) (Ok (bits, n))
classed rest (Err n) = Err n

unfoldable pub read_func_class : List ℕ → Leaf
read_func_class r = classed (drop 1 r) (func_class_letter r)

-- letters that may be missing: their bits, and how many bytes they take
abbrev pub class : ℕ → ℕ → Class
class bits n = record { bits = bits; taken = n }

-- read_storage_class, read_qualifier: another letter is left and says nothing
abbrev pub storage_classes : List (String × ℕ)
storage_classes =
    ("A", 0) ∷ ("B", CONST) ∷ ("C", VOLATILE) ∷ ("D", CONST + VOLATILE)
    ∷ ("E", FAR) ∷ ("F", CONST + FAR) ∷ ("G", VOLATILE + FAR) ∷ ("H", CONST + VOLATILE + FAR)
    ∷ ("Q", 0) ∷ ("R", CONST) ∷ ("S", VOLATILE) ∷ ("T", CONST + VOLATILE) ∷ []

unfoldable pub read_storage_class : List ℕ → Class
read_storage_class r = spelled class storage_classes (class 0 0) r

abbrev pub qualifiers : List (String × ℕ)
qualifiers =
    ("A", 0) ∷ ("B", CONST) ∷ ("C", VOLATILE) ∷ ("D", CONST + VOLATILE)
    ∷ ("Q", 0) ∷ ("R", CONST) ∷ ("S", VOLATILE) ∷ ("T", CONST + VOLATILE) ∷ []

unfoldable pub read_qualifier : List ℕ → Class
read_qualifier r = spelled class qualifiers (class 0 0) r

-- read_storage_class_for_return
abbrev pub return_classes : List (String × ℕ)
return_classes =
    ("?A", 0) ∷ ("?B", CONST) ∷ ("?C", VOLATILE) ∷ ("?D", CONST + VOLATILE) ∷ []

unfoldable pub read_storage_class_for_return : List ℕ → Leaf
read_storage_class_for_return r = spelled value return_classes (pick (starts (bytes "?") r) (Err (up_to 2 r)) (Ok (0, 0))) r

-- read_func_qualifiers: each of these may be missing, and the next is looked for behind it
infixr 20 ◌then◌
abbrev pub ◌then◌ : (List ℕ → Class) → (List ℕ → Class) → List ℕ → Class
(f then g) r = class ((f r).bits + (g (drop (f r).taken r)).bits) ((f r).taken + (g (drop (f r).taken r)).taken)

abbrev pub optional : ℕ → ℕ → List ℕ → Class
optional letter bits r = pick (starts (letter ∷ []) r) (class bits 1) (class 0 0)

abbrev pub ref_qualifiers : List (String × ℕ)
ref_qualifiers = ("G", LVALUE_QUAL) ∷ ("H", RVALUE_QUAL) ∷ []

abbrev pub ref_qualifier : List ℕ → Class
ref_qualifier r = spelled class ref_qualifiers (class 0 0) r

unfoldable pub read_func_qualifiers : List ℕ → Class
read_func_qualifiers =
    optional (code "E") PTR64 then
    optional (code "I") RESTRICT then
    optional (code "F") UNALIGNED then
    ref_qualifier then
    read_qualifier

-- parse, behind `_`: the bytes of a string's character
abbrev pub string_widths : List (String × ℕ)
string_widths = ("0", 1) ∷ ("1", 2) ∷ []

unfoldable pub read_string_width : List ℕ → Leaf
read_string_width r = spelled value string_widths (Err (up_to 1 r)) r

-- parse, behind the name of a guard: whether it is visible
abbrev pub guard_markers : List (String × ℕ)
guard_markers = ("4IA", 0) ∷ ("5", 1) ∷ []

unfoldable pub read_guard_marker : List ℕ → Leaf
read_guard_marker r = spelled value guard_markers (Err 0) r
