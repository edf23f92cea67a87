-- What the leaves of the lower crates take: no more than remains, also where they refuse, and so many bytes or more where they answer.
--     NAME-fits    what is taken is there
--     NAME-least   a byte or more is taken with an answer: what pays for a node
-- Assumes nothing.
use Prim.Native.Nat.{ℕ, suc, ◌+◌, ◌*◌, ◌-◌, ◌%◌, ◌^◌, ◌≤◌}
use Prim.Native.String.{String}
use Prim.Native.Char.{code}
use mathlib.Core.Path.{◌≡◌, refl}
use mathlib.Core.Bool.{Bool, true, false}
use mathlib.Core.List.{List, [], ◌∷◌}
use native.Mathlib.Omega.{arith}
use lib.ListN.{length, drop, length-drop}
use lib.Dec.{leb, ltb, eqb}
use borrow.Author.Tests.{leb-true, eqb-true}
use Rattle.scan.specs.Bytes.{pick, bytes, starts, spelled, is, between, is_digit, up_to}
use Rattle.scan.specs.Number.{letters, magnitude, read_number, unsigned, read_unsigned, guard_digits, read_guard_number}
use Rattle.scan.specs.Name.{string_from, read_string, read_hex_digits, read_md5_name}
use Rattle.scan.specs.Cursor.{Leaf, value, Span, read_digit}
use Rattle.std.specs.Prelude.{Ok, Err, Option, Some, None}
use Rattle.scan.proofs.Fits.{Fits, pick-fits, more-fits, number_fits}
use Rattle.scan.proofs.Names.{hex-digits-fit}
use Rattle.strings.specs.Encoded.{characters, kept, strung, behind_checksum, behind_length, read_encoded_string, Encoded}
use Rattle.strings.proofs.Fit.{SpanFits, characters-fits}
use Rattle.forms.specs.Types.{stored, digit_behind, type_reference, Reference}
use Rattle.forms.proofs.Starts.{digit_at}
use Rattle.letters.specs.Classes.{conventions, func_classes, return_classes, storage_classes, string_widths, guard_markers, read_calling_conv, func_class_letter, adjusted, classed, read_func_class, read_storage_class, read_qualifier, read_storage_class_for_return, ◌then◌, optional, ref_qualifier, read_func_qualifiers, read_string_width, read_guard_marker}
use Rattle.letters.specs.FuncClass as func
use Rattle.letters.specs.StorageClass.{UNALIGNED, RESTRICT, PTR64}
use Rattle.letters.specs.declared.Class.{Class}
use Rattle.letters.proofs.Spelled.{either, starts-fits, spelled-fits, class-fits, optional-fits, sized-reference, sized-qualifier}
use Rattle.operators.specs.Operators.{operators, read_operator}

-- an answer takes lo bytes or more
abbrev pub Least : ℕ → Leaf → Type 0
Least lo (Ok (v, n)) = lo ≤ n
Least lo (Err n) = Unit {0}

abbrev pub SpanLeast : ℕ → Span → Type 0
SpanLeast lo (Ok n) = lo ≤ n
SpanLeast lo (Err n) = Unit {0}

pub least-none : (x : Leaf) → Least 0 x
least-none (Ok (v, n)) = omega arith
least-none (Err n) = tt

pub pick-least : (lo : ℕ) (b : Bool) (x y : Leaf) → Least lo x → Least lo y → Least lo (pick b x y)
pick-least lo true x y f g = f
pick-least lo false x y f g = g

-- has every spelling of the table so many bytes or more
abbrev pub at_least : {X : Type 0} → ℕ → List (String × X) → Bool
at_least lo [] = true
at_least lo ((t, x) ∷ ts) = pick (leb lo (length (bytes t))) (at_least lo ts) false

never : {A : Type 0} → ◌≡◌ {A = Bool} false true → A
never e = let z : ◌≡◌ {A = ℕ} 0 1 = cc in absurd (omega arith)

least_step : (b c : Bool) (A B : Type 0) → pick b c false ≡ true → (b ≡ true → A) → (c ≡ true → B) → A × B
least_step true c A B e f g = (f refl, g e)
least_step false c A B e f g = never e

-- the first spelling is long enough, and the others are
pub at-least : {X : Type 0} (lo : ℕ) (t : String) (x : X) (ts : List (String × X)) → at_least lo ((t, x) ∷ ts) ≡ true → (lo ≤ length (bytes t)) × (at_least lo ts ≡ true)
at-least lo t x ts e = least_step (leb lo (length (bytes t))) (at_least lo ts) (lo ≤ length (bytes t)) (at_least lo ts ≡ true) e (leb-true _ _) (λ e. e)

-- a leaf that is a choice among spellings
abbrev taken : Leaf → ℕ
taken (Ok (v, n)) = n
taken (Err n) = n

fits-of : (most : ℕ) (x : Leaf) → taken x ≤ most → Fits most x
fits-of most (Ok (v, n)) h = h
fits-of most (Err n) h = h

taken_of : (most : ℕ) (x : Leaf) → Fits most x → taken x ≤ most
taken_of most (Ok (v, n)) h = h
taken_of most (Err n) h = h

pub value-fits : (table : List (String × ℕ)) (other : Leaf) (r : List ℕ) → Fits (length r) other → Fits (length r) (spelled value table other r)
value-fits table other r h = fits-of (length r) (spelled value table other r) (spelled-fits value taken (λ v n. refl) table other r (taken_of (length r) other h))

pub value-least : (lo : ℕ) (table : List (String × ℕ)) (other : Leaf) (r : List ℕ) → at_least lo table ≡ true → Least lo other → Least lo (spelled value table other r)
value-least lo [] other r e h = h
value-least lo ((t, v) ∷ ts) other r e h = let l = at-least lo t v ts e in pick-least lo (starts (bytes t) r) (Ok (v, length (bytes t))) (spelled value ts other r) l.0 (value-least lo ts other r l.1 h)

-- numbers
letters-least : (neg : Bool) (n v : ℕ) (r : List ℕ) → Least 1 (letters neg n v r)
unfolding letters
letters-least neg n v [] = tt
letters-least neg n v (c ∷ r) = pick-least 1 (is "@" c) (Ok (_, n + 1)) _ (omega arith) (pick-least 1 (between "A" "P" c) (letters neg (n + 1) ((v * 16 + (c - code "A")) % 2 ^ 32) r) (Err _) (letters-least neg (n + 1) ((v * 16 + (c - code "A")) % 2 ^ 32) r) tt)

magnitude-least : (neg : Bool) (r : List ℕ) → Least 1 (magnitude neg r)
unfolding magnitude
magnitude-least neg [] = tt
magnitude-least neg (c ∷ r) = pick-least 1 (is_digit c) (Ok (_, _)) (letters neg _ 0 (c ∷ r)) (omega arith) (letters-least neg _ 0 (c ∷ r))

pub number-least : (r : List ℕ) → Least 1 (read_number r)
unfolding read_number
number-least [] = tt
number-least (c ∷ r) = pick-least 1 (is "?" c) (magnitude true r) (magnitude false (c ∷ r)) (magnitude-least true r) (magnitude-least false (c ∷ r))

un_fits : (most : ℕ) (x : Leaf) → Fits most x → Fits most (unsigned x)
un_fits most (Ok (v, n)) h = pick-fits most (ltb v (2 ^ 31)) (Ok (v, n)) (Err n) h h
un_fits most (Err n) h = h

un-least : (lo : ℕ) (x : Leaf) → Least lo x → Least lo (unsigned x)
un-least lo (Ok (v, n)) h = pick-least lo (ltb v (2 ^ 31)) (Ok (v, n)) (Err n) h tt
un-least lo (Err n) h = tt

pub unsigned-fits : (r : List ℕ) → Fits (length r) (read_unsigned r)
unfolding read_unsigned
unsigned-fits r = un_fits (length r) (read_number r) (number_fits r)

pub unsigned-least : (r : List ℕ) → Least 1 (read_unsigned r)
unfolding read_unsigned
unsigned-least r = un-least 1 (read_number r) (number-least r)

guard-fits : (n v : ℕ) (r : List ℕ) → Fits (n + length r) (guard_digits n v r)
unfolding guard_digits
guard-fits n v [] = omega arith
guard-fits n v (c ∷ r) =
    pick-fits (n + suc (length r)) (is "@" c) (Ok (v, n + 1)) _ (omega arith)
    (pick-fits (n + suc (length r)) (is_digit c) (guard_digits (n + 1) ((v * 10 + (c - code "0")) % 2 ^ 32) r) (Err n)
    (more-fits (n + 1 + length r) (n + suc (length r)) (guard_digits (n + 1) ((v * 10 + (c - code "0")) % 2 ^ 32) r) (omega arith) (guard-fits (n + 1) ((v * 10 + (c - code "0")) % 2 ^ 32) r)) (omega arith))

guard-least : (n v : ℕ) (r : List ℕ) → Least 1 (guard_digits n v r)
unfolding guard_digits
guard-least n v [] = tt
guard-least n v (c ∷ r) = pick-least 1 (is "@" c) (Ok (v, n + 1)) _ (omega arith) (pick-least 1 (is_digit c) (guard_digits (n + 1) ((v * 10 + (c - code "0")) % 2 ^ 32) r) (Err n) (guard-least (n + 1) ((v * 10 + (c - code "0")) % 2 ^ 32) r) tt)

pub guard-number-fits : (r : List ℕ) → Fits (length r) (read_guard_number r)
unfolding read_guard_number
guard-number-fits [] = omega arith
guard-number-fits (c ∷ r) = pick-fits (suc (length r)) (is_digit c) (guard_digits 1 (c - code "0") r) (Err 0) (more-fits (1 + length r) (suc (length r)) (guard_digits 1 (c - code "0") r) (omega arith) (guard-fits 1 (c - code "0") r)) (omega arith)

pub guard-number-least : (r : List ℕ) → Least 1 (read_guard_number r)
unfolding read_guard_number
guard-number-least [] = tt
guard-number-least (c ∷ r) = pick-least 1 (is_digit c) (guard_digits 1 (c - code "0") r) (Err 0) (guard-least 1 (c - code "0") r) tt

-- names
pick-span : (P : Span → Type 0) (b : Bool) (x y : Span) → P x → P y → P (pick b x y)
pick-span P true x y f g = f
pick-span P false x y f g = g

more-span : (less most : ℕ) (x : Span) → less ≤ most → SpanFits less x → SpanFits most x
more-span less most (Ok n) h f = omega arith
more-span less most (Err n) h f = omega arith

from-fits : (n : ℕ) (r : List ℕ) → SpanFits (n + length r) (string_from n r)
unfolding string_from
from-fits n [] = omega arith
from-fits n (c ∷ r) =
    pick-span (SpanFits (n + suc (length r))) (is "@" c) (Ok (n + 1)) (string_from (n + 1) r) (omega arith)
    (more-span (n + 1 + length r) (n + suc (length r)) (string_from (n + 1) r) (omega arith) (from-fits (n + 1) r))

from-least : (n : ℕ) (r : List ℕ) → SpanLeast 1 (string_from n r)
unfolding string_from
from-least n [] = tt
from-least n (c ∷ r) = pick-span (SpanLeast 1) (is "@" c) (Ok (n + 1)) (string_from (n + 1) r) (omega arith) (from-least (n + 1) r)

pub string-fits : (r : List ℕ) → SpanFits (length r) (read_string r)
string-fits r = more-span (0 + length r) (length r) (string_from 0 r) (omega arith) (from-fits 0 r)

pub string-least : (r : List ℕ) → SpanLeast 1 (read_string r)
string-least r = from-least 0 r

pub hex-fits : (r : List ℕ) → read_hex_digits r ≤ length r
hex-fits r = hex-digits-fit r

pub md5-fits : (r : List ℕ) → SpanFits (length r) (read_md5_name r)
md5-fits r =
    either (SpanFits (length r)) (eqb (read_hex_digits r) 32) _ _
    (λ e. either (SpanFits (length r)) (starts (bytes "@") (drop 32 r)) (Ok 33) (Err 32)
    (λ a. omega (arith, starts-fits (bytes "@") (drop 32 r) a, length-drop 32 r))
    (λ a. omega (arith, hex-digits-fit r, eqb-true (read_hex_digits r) 32 e)))
    (λ e. hex-digits-fit r)

pub md5-least : (r : List ℕ) → SpanLeast 1 (read_md5_name r)
md5-least r =
    pick-span (SpanLeast 1) (eqb (read_hex_digits r) 32) _ (Err (read_hex_digits r))
    (pick-span (SpanLeast 1) (starts (bytes "@") (drop 32 r)) (Ok 33) (Err 32) (omega arith) tt) tt

pub calling-conv-fits : (r : List ℕ) → Fits (length r) (read_calling_conv r)
unfolding read_calling_conv
calling-conv-fits r = value-fits conventions (Err (up_to 1 r)) r (omega arith)

pub calling-conv-least : (r : List ℕ) → Least 1 (read_calling_conv r)
unfolding read_calling_conv
calling-conv-least r = value-least 1 conventions (Err (up_to 1 r)) r refl tt

letter-fits : (r : List ℕ) → Fits (length r) (func_class_letter r)
unfolding func_class_letter
letter-fits r = value-fits func_classes (Err (up_to 1 r)) r (omega arith)

letter-least : (r : List ℕ) → Least 1 (func_class_letter r)
unfolding func_class_letter
letter-least r = value-least 1 func_classes (Err (up_to 1 r)) r refl tt

adjusted-fits : (bits most : ℕ) (x : Leaf) → Fits most x → Fits (most + 1) (adjusted bits x)
adjusted-fits bits most (Ok (v, n)) h = omega arith
adjusted-fits bits most (Err n) h = omega arith

adjusted-least : (bits : ℕ) (x : Leaf) → Least 1 (adjusted bits x)
adjusted-least bits (Ok (v, n)) = omega arith
adjusted-least bits (Err n) = tt

classed-fits : (r : List ℕ) (x : Leaf) → Fits (length r) x → Least 1 x → Fits (length r) (classed (drop 1 r) x)
classed-fits r (Ok (bits, n)) f l =
    pick-fits (length r) (leb func.THUNK bits) (adjusted bits (read_number (drop 1 r))) (Ok (bits, n))
    (more-fits (length (drop 1 r) + 1) (length r) (adjusted bits (read_number (drop 1 r))) (omega (arith, length-drop 1 r)) (adjusted-fits bits (length (drop 1 r)) (read_number (drop 1 r)) (number_fits (drop 1 r)))) f
classed-fits r (Err n) f l = f

classed-least : (r : List ℕ) (x : Leaf) → Least 1 x → Least 1 (classed r x)
classed-least r (Ok (bits, n)) l = pick-least 1 (leb func.THUNK bits) (adjusted bits (read_number r)) (Ok (bits, n)) (adjusted-least bits (read_number r)) l
classed-least r (Err n) l = tt

pub func-class-fits : (r : List ℕ) → Fits (length r) (read_func_class r)
unfolding read_func_class
func-class-fits r = classed-fits r (func_class_letter r) (letter-fits r) (letter-least r)

pub func-class-least : (r : List ℕ) → Least 1 (read_func_class r)
unfolding read_func_class
func-class-least r = classed-least (drop 1 r) (func_class_letter r) (letter-least r)

-- the class of a return may be missing
pub return-class-fits : (r : List ℕ) → Fits (length r) (read_storage_class_for_return r)
unfolding read_storage_class_for_return
return-class-fits r = value-fits return_classes (pick (starts (bytes "?") r) (Err (up_to 2 r)) (Ok (0, 0))) r (pick-fits (length r) (starts (bytes "?") r) (Err (up_to 2 r)) (Ok (0, 0)) (omega arith) (omega arith))

pub string-width-fits : (r : List ℕ) → Fits (length r) (read_string_width r)
unfolding read_string_width
string-width-fits r = value-fits string_widths (Err (up_to 1 r)) r (omega arith)

pub string-width-least : (r : List ℕ) → Least 1 (read_string_width r)
unfolding read_string_width
string-width-least r = value-least 1 string_widths (Err (up_to 1 r)) r refl tt

pub guard-marker-fits : (r : List ℕ) → Fits (length r) (read_guard_marker r)
unfolding read_guard_marker
guard-marker-fits r = value-fits guard_markers (Err 0) r (omega arith)

pub guard-marker-least : (r : List ℕ) → Least 1 (read_guard_marker r)
unfolding read_guard_marker
guard-marker-least r = value-least 1 guard_markers (Err 0) r refl tt

pub operator-fits : (r : List ℕ) → Fits (length r) (read_operator r)
unfolding read_operator
operator-fits r =
    value-fits operators _ r
    (either (Fits (length r)) (starts (bytes "__") r) (Err 2) _ (λ e. starts-fits (bytes "__") r e)
    (λ e. pick-fits (length r) (starts (bytes "_R") r) (Err (up_to 3 r)) _ (omega arith)
    (pick-fits (length r) (starts (bytes "_") r) (Err (up_to 2 r)) (Err (up_to 1 r)) (omega arith) (omega arith))))

pub operator-least : (r : List ℕ) → Least 1 (read_operator r)
unfolding read_operator
operator-least r =
    value-least 1 operators _ r refl
    (pick-least 1 (starts (bytes "__") r) (Err 2) _ tt
    (pick-least 1 (starts (bytes "_R") r) (Err (up_to 3 r)) _ tt (pick-least 1 (starts (bytes "_") r) (Err (up_to 2 r)) (Err (up_to 1 r)) tt tt)))

-- letters that may be missing
pub storage-class-fits : (r : List ℕ) → (read_storage_class r).taken ≤ length r
unfolding read_storage_class
storage-class-fits r = class-fits storage_classes r

pub qualifier-fits : (r : List ℕ) → (read_qualifier r).taken ≤ length r
qualifier-fits r = sized-qualifier.fits r

then-fits : (f g : List ℕ → Class) → ((r : List ℕ) → (f r).taken ≤ length r) → ((r : List ℕ) → (g r).taken ≤ length r) → (r : List ℕ) → ((f then g) r).taken ≤ length r
then-fits f g p q r = omega (arith, p r, q (drop (f r).taken r), length-drop (f r).taken r)

abbrev pub referenced : List ℕ → Class
referenced = ref_qualifier then read_qualifier

abbrev pub unaligned : List ℕ → Class
unaligned = optional (code "F") UNALIGNED then referenced

abbrev pub restricted : List ℕ → Class
restricted = optional (code "I") RESTRICT then unaligned

pub func-qualifiers-fits : (r : List ℕ) → (read_func_qualifiers r).taken ≤ length r
unfolding read_func_qualifiers
func-qualifiers-fits =
    then-fits (optional (code "E") PTR64) restricted (optional-fits (code "E") PTR64)
    (then-fits (optional (code "I") RESTRICT) unaligned (optional-fits (code "I") RESTRICT)
    (then-fits (optional (code "F") UNALIGNED) referenced (optional-fits (code "F") UNALIGNED)
    (then-fits ref_qualifier read_qualifier sized-reference.fits sized-qualifier.fits)))

-- a stored type: its bytes are there, and the digit is one of them
abbrev pub ReferenceFits : ℕ → Reference → Type 0
ReferenceFits most (Some (d, n)) = (1 ≤ n) × (n ≤ most)
ReferenceFits most None = Unit {0}

behind-fits : (n : ℕ) (r : List ℕ) → ReferenceFits (length r) (digit_behind n r)
behind-fits n r = go (read_digit (drop n r)) refl
  where
    go : (x : Option ℕ) → read_digit (drop n r) ≡ x → ReferenceFits (length r) (stored n x)
    go (Some d) e = omega (arith, digit_at r n e)
    go None e = tt

pick-reference : (most : ℕ) (b : Bool) (x y : Reference) → ReferenceFits most x → ReferenceFits most y → ReferenceFits most (pick b x y)
pick-reference most true x y f g = f
pick-reference most false x y f g = g

pub reference-fits : (r : List ℕ) → ReferenceFits (length r) (type_reference r)
unfolding type_reference
reference-fits r =
    pick-reference (length r) (starts (bytes "$") r) _ (digit_behind 0 r)
    (pick-reference (length r) (starts (bytes "$$C") r) (digit_behind (3 + (read_qualifier (drop 3 r)).taken) r) _ (behind-fits (3 + (read_qualifier (drop 3 r)).taken) r)
    (pick-reference (length r) (starts (bytes "$0") r) None _ tt (pick-reference (length r) (starts (bytes "$1") r) None (digit_behind 1 r) tt (behind-fits 1 r)))) (behind-fits 0 r)

-- an encoded string: its length and its checksum are numbers, and its characters stand between its start and its end
abbrev pub EncodedFits : ℕ → Encoded → Type 0
EncodedFits most (Ok c) = (2 ≤ c.start) × (c.start ≤ c.taken) × (c.taken ≤ most)
EncodedFits most (Err n) = n ≤ most

strung-fits : (long start left most : ℕ) (x : Span) → 2 ≤ start → start + left ≤ most → SpanFits left x → EncodedFits most (strung long start x)
strung-fits long start left most (Ok n) l h f = omega arith
strung-fits long start left most (Err n) l h f = omega arith

checksum-fits : (width long a : ℕ) (r : List ℕ) (x : Leaf) → 1 ≤ a → a ≤ length r → Fits (length (drop a r)) x → Least 1 x → EncodedFits (length r) (behind_checksum width long a r x)
checksum-fits width long a r (Ok (v, b)) l h f m =
    strung-fits long (a + b) (0 + length (drop (a + b) r)) (length r) (characters (kept long width) 0 (drop (a + b) r)) (omega arith) (omega (arith, length-drop a r, length-drop (a + b) r)) (characters-fits (kept long width) 0 (drop (a + b) r))
checksum-fits width long a r (Err b) l h f m = omega (arith, length-drop a r)

length-fits : (width : ℕ) (r : List ℕ) (x : Leaf) → Fits (length r) x → Least 1 x → EncodedFits (length r) (behind_length width r x)
length-fits width r (Ok (v, a)) f m = checksum-fits width v a r (read_number (drop a r)) m f (number_fits (drop a r)) (number-least (drop a r))
length-fits width r (Err a) f m = f

pub encoded-fits : (width : ℕ) (r : List ℕ) → EncodedFits (length r) (read_encoded_string width r)
unfolding read_encoded_string
encoded-fits width r = length-fits width r (read_number r) (number_fits r) (number-least r)
