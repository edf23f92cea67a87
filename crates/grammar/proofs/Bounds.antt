-- How large the values are that the leaves of the lower crates answer with.
--     NAME-below   a leaf's value, where it answers, is at most so large
--     NAME-bound   the same of letters that may be missing
-- Assumes nothing.
use Prim.Native.Nat.{ℕ, ◌+◌, ◌*◌, ◌-◌, ◌%◌, ◌^◌, ◌≤◌}
use Prim.Native.String.{String}
use Prim.Native.Char.{code}
use mathlib.Core.Path.{◌≡◌, refl, sym}
use mathlib.Core.Bool.{Bool, true, false}
use mathlib.Core.List.{List, [], ◌∷◌}
use native.Mathlib.Omega.{arith}
use lib.ListN.{length, drop}
use lib.Dec.{leb, ltb}
use borrow.Author.Tests.{leb-true, ltb-true}
use Rattle.scan.specs.Bytes.{pick, bytes, starts, spelled, is, between, is_digit, up_to}
use Rattle.scan.specs.Number.{signed, letters, magnitude, read_number, unsigned, read_unsigned, guard_digits, read_guard_number}
use Rattle.scan.specs.Cursor.{Leaf, value}
use Rattle.std.specs.Prelude.{Ok, Err}
use Rattle.letters.specs.Classes.{conventions, func_classes, return_classes, storage_classes, read_calling_conv, func_class_letter, adjusted, classed, read_func_class, read_storage_class, read_qualifier, read_storage_class_for_return, ◌then◌, optional, ref_qualifier, read_func_qualifiers}
use Rattle.letters.specs.FuncClass as func
use Rattle.letters.specs.StorageClass.{UNALIGNED, RESTRICT, PTR64}
use Rattle.letters.specs.declared.Class.{Class}
use Rattle.letters.proofs.Spelled.{either, class-bits, optional-bits, sized-reference, sized-qualifier}
use Rattle.operators.specs.Operators.{operators, read_operator}
use Rattle.form.specs.Kinds.{any, class_most, convention_most, func_class_most}
use Rattle.grammar.proofs.Leaves.{referenced, unaligned, restricted}
use Rattle.grammar.proofs.Funded.{true-false}

-- a value is at most so large
abbrev pub Below : ℕ → Leaf → Type 0
Below most (Ok (v, n)) = v ≤ most
Below most (Err n) = Unit {0}

pick-below : (most : ℕ) (b : Bool) (x y : Leaf) → Below most x → Below most y → Below most (pick b x y)
pick-below most true x y f g = f
pick-below most false x y f g = g

-- are all values of a table
abbrev all_below : ℕ → List (String × ℕ) → Bool
all_below most [] = true
all_below most ((t, v) ∷ ts) = pick (leb v most) (all_below most ts) false

pub both : (a b : Bool) → pick a b false ≡ true → (a ≡ true) × (b ≡ true)
both true b e = (refl, e)
both false b e = true-false (sym e)

value-below : (most : ℕ) (table : List (String × ℕ)) (other : Leaf) (r : List ℕ) → all_below most table ≡ true → Below most other → Below most (spelled value table other r)
value-below most [] other r e h = h
value-below most ((t, v) ∷ ts) other r e h =
    let l = both (leb v most) (all_below most ts) e in
    pick-below most (starts (bytes t) r) (Ok (v, length (bytes t))) (spelled value ts other r) (leb-true v most l.0) (value-below most ts other r l.1 h)

-- numbers: 32 bits
signed_below : (neg : Bool) (v : ℕ) → v ≤ any → signed neg v ≤ any
signed_below true v h = omega arith
signed_below false v h = h

letters-below : (neg : Bool) (n v : ℕ) (r : List ℕ) → v ≤ any → Below any (letters neg n v r)
unfolding letters
letters-below neg n v [] h = tt
letters-below neg n v (c ∷ r) h =
    pick-below any (is "@" c) (Ok (signed neg v, n + 1)) _ (signed_below neg v h)
    (pick-below any (between "A" "P" c) (letters neg (n + 1) ((v * 16 + (c - code "A")) % 2 ^ 32) r) (Err _) (letters-below neg (n + 1) ((v * 16 + (c - code "A")) % 2 ^ 32) r (omega arith)) tt)

digit-small : (c : ℕ) → is_digit c ≡ true → c ≤ code "9"
digit-small c e = leb-true c (code "9") (both (leb (code "0") c) (leb c (code "9")) e).1

magnitude-below : (neg : Bool) (r : List ℕ) → Below any (magnitude neg r)
unfolding magnitude
magnitude-below neg [] = tt
magnitude-below neg (c ∷ r) =
    either (Below any) (is_digit c) (Ok (_, _)) (letters neg _ 0 (c ∷ r)) (λ e. signed_below neg (c - code "0" + 1) (omega (arith, digit-small c e))) (λ e. letters-below neg _ 0 (c ∷ r) (omega arith))

pub number-below : (r : List ℕ) → Below any (read_number r)
unfolding read_number
number-below [] = tt
number-below (c ∷ r) = pick-below any (is "?" c) (magnitude true r) (magnitude false (c ∷ r)) (magnitude-below true r) (magnitude-below false (c ∷ r))

un-below : (x : Leaf) → Below 2147483647 (unsigned x)
un-below (Ok (v, n)) = either (Below 2147483647) (ltb v (2 ^ 31)) (Ok (v, n)) (Err n) (λ e. omega (arith, ltb-true v (2 ^ 31) e)) (λ e. tt)
un-below (Err n) = tt

pub unsigned-below : (r : List ℕ) → Below 2147483647 (read_unsigned r)
unfolding read_unsigned
unsigned-below r = un-below (read_number r)

guard-below : (n v : ℕ) (r : List ℕ) → v ≤ any → Below any (guard_digits n v r)
unfolding guard_digits
guard-below n v [] h = tt
guard-below n v (c ∷ r) h = pick-below any (is "@" c) (Ok (v, n + 1)) _ h (pick-below any (is_digit c) (guard_digits (n + 1) ((v * 10 + (c - code "0")) % 2 ^ 32) r) (Err n) (guard-below (n + 1) ((v * 10 + (c - code "0")) % 2 ^ 32) r (omega arith)) tt)

pub guard-number-below : (r : List ℕ) → Below any (read_guard_number r)
unfolding read_guard_number
guard-number-below [] = tt
guard-number-below (c ∷ r) = either (Below any) (is_digit c) (guard_digits 1 (c - code "0") r) (Err 0) (λ e. guard-below 1 (c - code "0") r (omega (arith, digit-small c e))) (λ e. tt)

-- conventions, function classes, operators
pub calling-conv-below : (r : List ℕ) → Below convention_most (read_calling_conv r)
unfolding read_calling_conv
calling-conv-below r = value-below convention_most conventions (Err (up_to 1 r)) r refl tt

adjusted-below : (bits : ℕ) (x : Leaf) → bits ≤ func_class_most → Below func_class_most (adjusted bits x)
adjusted-below bits (Ok (v, n)) h = h
adjusted-below bits (Err n) h = tt

classed-below : (r : List ℕ) (x : Leaf) → Below func_class_most x → Below func_class_most (classed r x)
classed-below r (Ok (bits, n)) h = pick-below func_class_most (leb func.THUNK bits) (adjusted bits (read_number r)) (Ok (bits, n)) (adjusted-below bits (read_number r) h) h
classed-below r (Err n) h = tt

letter-below : (r : List ℕ) → Below func_class_most (func_class_letter r)
unfolding func_class_letter
letter-below r = value-below func_class_most func_classes (Err (up_to 1 r)) r refl tt

pub func-class-below : (r : List ℕ) → Below func_class_most (read_func_class r)
unfolding read_func_class
func-class-below r = classed-below (drop 1 r) (func_class_letter r) (letter-below r)

pub operator-below : (r : List ℕ) → Below 76 (read_operator r)
unfolding read_operator
operator-below r =
    value-below 76 operators _ r refl
    (pick-below 76 (starts (bytes "__") r) (Err 2) _ tt
    (pick-below 76 (starts (bytes "_R") r) (Err (up_to 3 r)) _ tt (pick-below 76 (starts (bytes "_") r) (Err (up_to 2 r)) (Err (up_to 1 r)) tt tt)))

-- storage classes
pub return-class-below : (r : List ℕ) → Below class_most (read_storage_class_for_return r)
unfolding read_storage_class_for_return
return-class-below r = value-below class_most return_classes (pick (starts (bytes "?") r) (Err (up_to 2 r)) (Ok (0, 0))) r refl (pick-below class_most (starts (bytes "?") r) (Err (up_to 2 r)) (Ok (0, 0)) tt (omega arith))

-- with room for PTR64
pub storage-class-bound : (r : List ℕ) → (read_storage_class r).bits + PTR64 ≤ class_most
unfolding read_storage_class
storage-class-bound r = omega (arith, class-bits storage_classes r)

pub qualifier-bound : (r : List ℕ) → (read_qualifier r).bits + PTR64 ≤ class_most
qualifier-bound r = omega (arith, sized-qualifier.bound r)

then-bound : (f g : List ℕ → Class) (a b : ℕ) → ((r : List ℕ) → (f r).bits ≤ a) → ((r : List ℕ) → (g r).bits ≤ b) → (r : List ℕ) → ((f then g) r).bits ≤ a + b
then-bound f g a b p q r = omega (arith, p r, q (drop (f r).taken r))

pub func-qualifiers-bound : (r : List ℕ) → (read_func_qualifiers r).bits ≤ class_most
unfolding read_func_qualifiers
func-qualifiers-bound =
    then-bound (optional (code "E") PTR64) restricted PTR64 447 (optional-bits (code "E") PTR64)
    (then-bound (optional (code "I") RESTRICT) unaligned RESTRICT 415 (optional-bits (code "I") RESTRICT)
    (then-bound (optional (code "F") UNALIGNED) referenced UNALIGNED 399 (optional-bits (code "F") UNALIGNED)
    (then-bound ref_qualifier read_qualifier 384 15 sized-reference.bound (λ r. omega (arith, sized-qualifier.bound r)))))
