-- The words that productions are written in, each by the few instructions of the language. With them a production reads in the order of the crate's lines:
--     x ← p             let x = self.p()?
--     "W4" ⇒ p ∥ q      if self.consume(b"W4") { p } else { q }
--     expect "@"        self.expect(b"@")?
-- Leaves are what the lower crates read, as functions of what remains.
-- Assumes nothing: these are definitions.
use Rattle.std.specs.Prelude.{ℕ, ◌-◌, ◌%◌, List, [], ◌∷◌, Bool, length, get_or, drop, ltb, leb, Ok, Err}
use Prim.Native.String.{String}
use Prim.Native.Char.{code}
use Rattle.scan.specs.Bytes.{bytes, starts, is_digit}
use Rattle.scan.specs.Number.{read_number, read_unsigned}
use Rattle.scan.specs.Name.{read_string, read_hex_digits}
use Rattle.scan.specs.Cursor.{Leaf, Span}
use Rattle.letters.specs.declared.Class.{Class}
use Rattle.grammar.specs.Program.{names, types, Program, ret, fail, look, when, skip, recall, keep, store, sub}
use Rattle.grammar.specs.declared.Memo.{Memo}

-- the byte at a place; past the end there is 256, which is no byte
abbrev pub byte_at : List ℕ → ℕ → ℕ
byte_at s at = get_or s at 256

module _ {Tag : Type 0} {Ans : Tag → Type 0} where
  infixl 10 ◌>>=◌
  abbrev pub ◌>>=◌ : {A B : Type 0} → Program Tag Ans B → (B → Program Tag Ans A) → Program Tag Ans A
  p >>= k = sub p k

  infixl 10 ◌>>◌
  abbrev pub ◌>>◌ : {A B : Type 0} → Program Tag Ans B → Program Tag Ans A → Program Tag Ans A
  p >> q = sub p (λ _. q)

  -- if these bytes stand here, take them and do p, else q
  infixr 20 ◌⇒◌∥◌
  abbrev pub ◌⇒◌∥◌ : {A : Type 0} → String → Program Tag Ans A → Program Tag Ans A → Program Tag Ans A
  b ⇒ p ∥ q = look λ s at. when (starts (bytes b) (drop at s)) (skip (length (bytes b)) p) q

  -- if these bytes stand here, do p without taking them, else q
  infixr 20 ◌↝◌∥◌
  abbrev pub ◌↝◌∥◌ : {A : Type 0} → String → Program Tag Ans A → Program Tag Ans A → Program Tag Ans A
  b ↝ p ∥ q = look λ s at. when (starts (bytes b) (drop at s)) p q

  -- at the end of the symbol p, else q
  abbrev pub at_end : {A : Type 0} → Program Tag Ans A → Program Tag Ans A → Program Tag Ans A
  at_end p q = look λ s at. when (leb (length s) at) p q

  abbrev pub expect : String → Program Tag Ans (Unit {0})
  expect b = b ⇒ ret tt ∥ fail

  abbrev pub refuse_if : Bool → Program Tag Ans (Unit {0})
  refuse_if b = when b fail (ret tt)

  -- the offset
  abbrev pub here : Program Tag Ans ℕ
  here = look λ s at. ret at

  -- a value that what remains decides by itself, and the bytes that it takes, also before a refusal
  abbrev pub leaf_is : Leaf → Program Tag Ans ℕ
  leaf_is (Ok (v, n)) = skip n (ret v)
  leaf_is (Err n) = skip n fail

  abbrev pub leaf : (List ℕ → Leaf) → Program Tag Ans ℕ
  leaf f = look λ s at. leaf_is (f (drop at s))

  -- the same where the bytes themselves are the value: how many are taken
  abbrev pub span_is : Span → Program Tag Ans ℕ
  span_is (Ok n) = skip n (ret n)
  span_is (Err n) = skip n fail

  abbrev pub span : (List ℕ → Span) → Program Tag Ans ℕ
  span f = look λ s at. span_is (f (drop at s))

  -- letters that may be missing: their bits
  abbrev pub class_is : Class → Program Tag Ans ℕ
  class_is x = skip x.taken (ret x.bits)

  abbrev pub class : (List ℕ → Class) → Program Tag Ans ℕ
  class f = look λ s at. class_is (f (drop at s))

  -- so many bytes are taken
  abbrev pub count_is : ℕ → Program Tag Ans ℕ
  count_is n = skip n (ret n)

  abbrev pub count : (List ℕ → ℕ) → Program Tag Ans ℕ
  count f = look λ s at. count_is (f (drop at s))

  -- ordered choice among spellings: the first that stands here is taken, and its value decides what follows
  abbrev pub ordered : {X A : Type 0} → List (String × X) → (X → Program Tag Ans A) → Program Tag Ans A → Program Tag Ans A
  ordered [] k other = other
  ordered ((t, x) ∷ ts) k other = t ⇒ k x ∥ ordered ts k other

  -- if a digit stands here, take it and go on by it, else q
  abbrev pub digit : {A : Type 0} → (ℕ → Program Tag Ans A) → Program Tag Ans A → Program Tag Ans A
  digit p q = look λ s at. when (is_digit (byte_at s at)) (skip 1 (p (byte_at s at - code "0"))) q

  -- the memo
  abbrev pub memo : Program Tag Ans Memo
  memo = recall λ m. ret m

  abbrev pub set_memo : Memo → Program Tag Ans (Unit {0})
  set_memo m = keep m (ret tt)

  abbrev pub memorize_name : ℕ → Program Tag Ans (Unit {0})
  memorize_name n = store names n (ret tt)

  abbrev pub memorize_type : ℕ → Program Tag Ans (Unit {0})
  memorize_type n = store types n (ret tt)

  -- a stored name or type
  abbrev pub name_of : ℕ → Program Tag Ans ℕ
  name_of i = recall λ m. when (ltb i m.names_len) (ret (get_or m.names i 0)) fail

  abbrev pub type_of : ℕ → Program Tag Ans ℕ
  type_of i = recall λ m. when (ltb i m.types_len) (ret (get_or m.types i 0)) fail

-- numbers: 32 bits, as they stand in a cell
abbrev pub negative : ℕ → Bool
negative v = leb 2147483648 v

abbrev pub negated : ℕ → ℕ
negated v = (4294967296 - v) % 4294967296

module _ {Tag : Type 0} {Ans : Tag → Type 0} where
  abbrev pub number : Program Tag Ans ℕ
  number = leaf read_number

  abbrev pub unsigned : Program Tag Ans ℕ
  unsigned = leaf read_unsigned

  -- up to the next `@`, which is taken too
  abbrev pub string : Program Tag Ans ℕ
  string = span read_string

  abbrev pub hex_digits : Program Tag Ans ℕ
  hex_digits = count read_hex_digits
