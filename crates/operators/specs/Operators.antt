-- The letters of read_special_name, behind `?`. Operators are numbered in the order of the crate's enum, but for the two RTTI descriptors
-- with operands, which come last.
-- Assumes nothing: these are definitions.
use Rattle.std.specs.Prelude.{ℕ, List, [], ◌∷◌, Err}
use Prim.Native.String.{String}
use Rattle.scan.specs.Bytes.{pick, bytes, starts, spelled, up_to}
use Rattle.scan.specs.Cursor.{Leaf, value}

-- the operators that code and grammar ask for
abbrev pub Ctor : ℕ
Ctor = 0

abbrev pub Dtor : ℕ
Dtor = 1

abbrev pub Conversion : ℕ
Conversion = 11

abbrev pub VBTable : ℕ
VBTable = 44

abbrev pub LocalStaticGuard : ℕ
LocalStaticGuard = 47

abbrev pub LiteralOperatorName : ℕ
LiteralOperatorName = 68

abbrev pub LocalStaticThreadGuard : ℕ
LocalStaticThreadGuard = 74

abbrev pub RTTITypeDescriptor : ℕ
RTTITypeDescriptor = 75

abbrev pub RTTIBaseClassDescriptor : ℕ
RTTIBaseClassDescriptor = 76

abbrev pub operators : List (String × ℕ)
operators =
    ("0", Ctor)
    ∷ ("1", Dtor)
    ∷ ("2", 2)  -- New
    ∷ ("3", 3)  -- Delete
    ∷ ("4", 4)  -- Equal
    ∷ ("5", 5)  -- RShift
    ∷ ("6", 6)  -- LShift
    ∷ ("7", 7)  -- Bang
    ∷ ("8", 8)  -- EqualEqual
    ∷ ("9", 9)  -- BangEqual
    ∷ ("A", 10)  -- Subscript
    ∷ ("B", Conversion)
    ∷ ("C", 12)  -- Arrow
    ∷ ("D", 13)  -- Star
    ∷ ("E", 14)  -- PlusPlus
    ∷ ("F", 15)  -- MinusMinus
    ∷ ("G", 16)  -- Minus
    ∷ ("H", 17)  -- Plus
    ∷ ("I", 18)  -- Amp
    ∷ ("J", 19)  -- ArrowStar
    ∷ ("K", 20)  -- Slash
    ∷ ("L", 21)  -- Percent
    ∷ ("M", 22)  -- Less
    ∷ ("N", 23)  -- LessEqual
    ∷ ("O", 24)  -- Greater
    ∷ ("P", 25)  -- GreaterEqual
    ∷ ("Q", 26)  -- Comma
    ∷ ("R", 27)  -- Call
    ∷ ("S", 28)  -- Tilde
    ∷ ("T", 29)  -- Caret
    ∷ ("U", 30)  -- Pipe
    ∷ ("V", 31)  -- AmpAmp
    ∷ ("W", 32)  -- PipePipe
    ∷ ("X", 33)  -- StarEqual
    ∷ ("Y", 34)  -- PlusEqual
    ∷ ("Z", 35)  -- MinusEqual
    ∷ ("_0", 36)  -- SlashEqual
    ∷ ("_1", 37)  -- PercentEqual
    ∷ ("_2", 38)  -- GreaterGreaterEqual
    ∷ ("_3", 39)  -- LessLessEqual
    ∷ ("_4", 40)  -- AmpEqual
    ∷ ("_5", 41)  -- PipeEqual
    ∷ ("_6", 42)  -- CaretEqual
    ∷ ("_7", 43)  -- VFTable
    ∷ ("_8", VBTable)
    ∷ ("_9", 45)  -- VCall
    ∷ ("_A", 46)  -- Typeof
    ∷ ("_B", LocalStaticGuard)
    ∷ ("_C", 48)  -- String
    ∷ ("_D", 49)  -- VBaseDtor
    ∷ ("_E", 50)  -- VectorDeletingDtor
    ∷ ("_F", 51)  -- DefaultCtorClosure
    ∷ ("_G", 52)  -- ScalarDeletingDtor
    ∷ ("_H", 53)  -- VectorCtorIterator
    ∷ ("_I", 54)  -- VectorDtorIterator
    ∷ ("_J", 55)  -- VectorVBaseCtorIterator
    ∷ ("_K", 56)  -- VirtualDisplacementMap
    ∷ ("_L", 57)  -- EHVectorCtorIterator
    ∷ ("_M", 58)  -- EHVectorDtorIterator
    ∷ ("_N", 59)  -- EHVectorVBaseCtorIterator
    ∷ ("_O", 60)  -- CopyCtorClosure
    ∷ ("_S", 61)  -- LocalVFTable
    ∷ ("_T", 62)  -- LocalVFTableCtorClosure
    ∷ ("_U", 63)  -- ArrayNew
    ∷ ("_V", 64)  -- ArrayDelete
    ∷ ("_X", 65)  -- PlacementDeleteClosure
    ∷ ("_Y", 66)  -- PlacementArrayDeleteClosure
    ∷ ("__L", 67)  -- CoroutineAwait
    ∷ ("__K", LiteralOperatorName)
    ∷ ("_R2", 69)  -- RTTIBaseClassArray
    ∷ ("_R3", 70)  -- RTTIClassHierarchyDescriptor
    ∷ ("_R4", 71)  -- RTTIClassCompleteObjectLocator
    ∷ ("__E", 72)  -- DynamicInitializer
    ∷ ("__F", 73)  -- DynamicAtexitDtor
    ∷ ("__J", LocalStaticThreadGuard)
    ∷ ("_R0", RTTITypeDescriptor)
    ∷ ("_R1", RTTIBaseClassDescriptor)
    ∷ []

-- read_special_name up to its operands: a wrong letter is taken, but for one behind `__`
unfoldable pub read_operator : List ℕ → Leaf
read_operator r =
    spelled value operators
    (pick (starts (bytes "__") r) (Err 2)
    (pick (starts (bytes "_R") r) (Err (up_to 3 r))
    (pick (starts (bytes "_") r) (Err (up_to 2 r)) (Err (up_to 1 r))))) r
