-- Every literal of the crate's Serializer, by number. Assumes nothing: these are definitions.
use Rattle.std.specs.Prelude.{ℕ, List, [], ◌∷◌, ◌++◌, slice_index_or}
use Prim.Native.String.{String}
use Rattle.scan.specs.Bytes.{bytes}

-- operators, by their number
abbrev pub operators : List String
operators =
    "ctor"
    ∷ "dtor"
    ∷ "operator new"
    ∷ "operator delete"
    ∷ "operator="
    ∷ "operator>>"
    ∷ "operator<<"
    ∷ "operator!"
    ∷ "operator=="
    ∷ "operator!="
    ∷ "operator[]"
    ∷ "operatorcast"
    ∷ "operator->"
    ∷ "operator*"
    ∷ "operator++"
    ∷ "operator--"
    ∷ "operator-"
    ∷ "operator+"
    ∷ "operator&"
    ∷ "operator->*"
    ∷ "operator/"
    ∷ "operator%"
    ∷ "operator<"
    ∷ "operator<="
    ∷ "operator>"
    ∷ "operator>="
    ∷ "operator,"
    ∷ "operator()"
    ∷ "operator~"
    ∷ "operator^"
    ∷ "operator|"
    ∷ "operator&&"
    ∷ "operator||"
    ∷ "operator*="
    ∷ "operator+="
    ∷ "operator-="
    ∷ "operator/="
    ∷ "operator%="
    ∷ "operator>>="
    ∷ "operator<<="
    ∷ "operator&="
    ∷ "operator|="
    ∷ "operator^="
    ∷ "`vftable'"
    ∷ "`vbtable'"
    ∷ "`vcall'"
    ∷ "`typeof'"
    ∷ "`local static guard'"
    ∷ "`string'"
    ∷ "`vbase destructor'"
    ∷ "`vector deleting destructor'"
    ∷ "`default constructor closure'"
    ∷ "`scalar deleting destructor'"
    ∷ "`vector constructor iterator'"
    ∷ "`vector destructor iterator'"
    ∷ "`vector vbase constructor iterator'"
    ∷ "`virtual displacement map'"
    ∷ "`eh vector constructor iterator'"
    ∷ "`eh vector destructor iterator'"
    ∷ "`eh vector vbase constructor iterator'"
    ∷ "`copy constructor closure'"
    ∷ "`local vftable'"
    ∷ "`local vftable constructor closure'"
    ∷ "operator new[]"
    ∷ "operator delete[]"
    ∷ "`placement delete closure'"
    ∷ "`placement delete[] closure'"
    ∷ " co_await"
    ∷ "operator \"\""
    ∷ "`RTTI Base Class Array'"
    ∷ "`RTTI Class Hierarchy Descriptor'"
    ∷ "`RTTI Complete Object Locator'"
    ∷ "`dynamic initializer'"
    ∷ "`dynamic atexit destructor'"
    ∷ "`local static thread guard'"
    ∷ []

-- basic types, in the order of their kinds
abbrev pub basics : List String
basics =
    "void"
    ∷ "bool"
    ∷ "char"
    ∷ "signed char"
    ∷ "unsigned char"
    ∷ "short"
    ∷ "unsigned short"
    ∷ "int"
    ∷ "unsigned int"
    ∷ "long"
    ∷ "unsigned long"
    ∷ "int64_t"
    ∷ "uint64_t"
    ∷ "int128_t"
    ∷ "uint128_t"
    ∷ "wchar_t"
    ∷ "char8_t"
    ∷ "char16_t"
    ∷ "char32_t"
    ∷ "float"
    ∷ "double"
    ∷ "long double"
    ∷ []

-- Int64 to Uint128 under MS_TYPENAMES
abbrev pub renamed : List String
renamed =
    "__int64"
    ∷ "unsigned __int64"
    ∷ "__int128"
    ∷ "unsigned __int128"
    ∷ []

-- calling conventions, by their number
abbrev pub conventions : List String
conventions =
    "__cdecl "
    ∷ "__pascal "
    ∷ "__thiscall "
    ∷ "__stdcall "
    ∷ "__fastcall "
    ∷ []

-- all others
abbrev pub others : List String
others =
    "const"
    ∷ "volatile"
    ∷ "__ptr64"
    ∷ "__restrict"
    ∷ "&&"
    ∷ "struct "
    ∷ "union "
    ∷ "class "
    ∷ "enum "
    ∷ "private: static "
    ∷ "protected: static "
    ∷ "public: static "
    ∷ "[thunk]: "
    ∷ "private: "
    ∷ "protected: "
    ∷ "public: "
    ∷ "static "
    ∷ "virtual "
    ∷ "::*"
    ∷ "`template-parameter"
    ∷ "TSS"
    ∷ "..."
    ∷ "std::nullptr_t"
    ∷ ")("
    ∷ "'}}"
    ∷ "{for `"
    ∷ "'}"
    ∷ "{flat}}"
    ∷ "::"
    ∷ "??@"
    ∷ "`anonymous namespace'"
    ∷ "[invalid]"
    ∷ "`vbtable'{for `"
    ∷ "operator "
    ∷ "::`RTTI Type Descriptor'"
    ∷ "`RTTI Base Class Descriptor at ("
    ∷ ")'"
    ∷ "&"
    ∷ []

abbrev pub words : List String
words = operators ++ (basics ++ (renamed ++ (conventions ++ others)))

unfoldable pub word : ℕ → List ℕ
word w = bytes (slice_index_or words w "")
