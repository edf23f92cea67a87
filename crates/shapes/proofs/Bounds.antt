-- What the leaves of names and symbols answer is small, and what they take ends in sixteen bits. Assumes nothing.
--     value-below     the number that a leaf says, where all its answers are below a bound
--     encoded-room    an encoded string ends in sixteen bits, behind its start
--     NAME-room       the same for what parse, a symbol's type and a nested name begin with
use Prim.Native.Nat.{ℕ, ◌+◌, ◌-◌, ◌^◌, ◌≤◌, ◌<◌}
use mathlib.Core.Path.{◌≡◌, sym, ap, subst, ◌∙◌, refl}
use mathlib.Core.List.{List, [], ◌∷◌}
use mathlib.Core.Bool.{Bool, true, false}
use native.Mathlib.Omega.{arith}
use lib.ListN.{length, drop, length-drop}
use lib.Dec.{ltb}
use borrow.Author.Tests.{ltb-true}
use Rattle.std.specs.Prelude.{Result, Ok, Err}
use Rattle.scan.specs.Bytes.{pick, bytes, starts, up_to}
use Rattle.scan.specs.Cursor.{Leaf}
use Rattle.scan.specs.Number.{read_number, unsigned, read_unsigned}
use Rattle.scan.specs.Name.{read_hex_digits}
use Rattle.strings.specs.Encoded.{read_encoded_string, Encoded}
use Rattle.letters.specs.Classes.{read_string_width}
use Rattle.letters.proofs.Spelled.{either, starts-fits, spelled-fits}
use Rattle.forms.specs.Start.{start}
use Rattle.forms.specs.declared.start.Start.{Start}
use Rattle.forms.specs.Begins.{parse_forms, parse_start, unlisted, symbol_forms, symbol_start, name_forms, name_start}
use Rattle.forms.specs.declared.begins.ParseForm.{ParseForm}
use Rattle.forms.specs.declared.begins.ParseForm.TheVariants as parse
use Rattle.forms.specs.declared.begins.SymbolForm.{SymbolForm}
use Rattle.forms.specs.declared.begins.NameForm.{NameForm}
use Rattle.forms.specs.declared.begins.NameForm.TheVariants as name
use Rattle.grammar.specs.Program.{Reply, found, refused, Out, out, run}
use Rattle.grammar.specs.Words.{leaf_is, leaf}
use Rattle.grammar.specs.declared.State.{State}
use Rattle.grammar.specs.declared.Refusal.{Refusal}
use Rattle.grammar.proofs.Leaves.{hex-fits, EncodedFits, encoded-fits}
use Rattle.shapes.proofs.Spellings.{place-room}
use Rattle.steps.specs.Does.{replied, runs, Values}
use Rattle.scan.specs.Limits.{longest_symbol, Short}

-- the number of an answer is below a bound
abbrev Below : ℕ → Leaf → Type 0
Below most (Ok (v, n)) = v < most
Below most (Err n) = Unit {0}

abbrev number_of : Reply ℕ → ℕ
number_of (found n) = n
number_of (refused why) = 0

abbrev is_found : Reply ℕ → ℕ
is_found (found n) = 1
is_found (refused why) = 0

below-said : (s : List ℕ) (most x : ℕ) (l : Leaf) (st st' : State) → Below most l → out (found x) st' [] ≡ runs s 0 0 0 (leaf_is l) st [] → x < most
unfolding run
below-said s most x (Ok (v, n)) st st' h e = let z : x ≡ v = ap (λ (o : Out ℕ (List ℕ)). number_of o.reply) e in omega arith
below-said s most x (Err n) st st' h e = let z : ◌≡◌ {A = ℕ} 1 0 = ap (λ (o : Out ℕ (List ℕ)). is_found o.reply) e in absurd (omega (arith, z))

value-below : {s : List ℕ} (f : List ℕ → Leaf) (most : ℕ) → ((r : List ℕ) → Below most (f r)) → {g : Result ℕ Refusal} {x : ℕ} {st st' : State} → Values s (leaf f) st g st' → g ≡ Ok x → x < most
unfolding run
value-below {s} f most small {g} {x} {st} {st'} v e =
    below-said s most x (f (drop st.at s)) st st' (small (drop st.at s)) (ap (λ (y : Result ℕ Refusal). out (replied y) st' []) (sym e) ∙ v.is 0 0 0 [])

pick-below : (most : ℕ) (b : Bool) (x y : Leaf) → Below most x → Below most y → Below most (pick b x y)
pick-below most true x y f g = f
pick-below most false x y f g = g

width-below : (r : List ℕ) → Below 256 (read_string_width r)
unfolding read_string_width
width-below r = pick-below 256 (starts (bytes "0") r) (Ok (1, 1)) _ (omega arith) (pick-below 256 (starts (bytes "1") r) (Ok (2, 1)) (Err (up_to 1 r)) (omega arith) tt)

unsigned-below : (l : Leaf) → Below (2 ^ 31) (unsigned l)
unsigned-below (Ok (v, n)) = either (Below (2 ^ 31)) (ltb v (2 ^ 31)) (Ok (v, n)) (Err n) (λ e. ltb-true v (2 ^ 31) e) (λ e. tt)
unsigned-below (Err n) = tt

index_below : (r : List ℕ) → Below (2 ^ 31) (read_unsigned r)
unfolding read_unsigned
index_below r = unsigned-below (read_number r)

module _ {s : List ℕ} {g : Result ℕ Refusal} {x : ℕ} {st st' : State} where
  pub width_small : Values s (leaf read_string_width) st g st' → g ≡ Ok x → x < 256
  width_small = value-below read_string_width 256 width-below

  pub index-small : Values s (leaf read_unsigned) st g st' → g ≡ Ok x → x < 2147483648
  index-small = value-below read_unsigned 2147483648 index_below

-- what is begun with is there
parse-fits : (r : List ℕ) → (parse_start r).taken ≤ length r
unfolding parse_start
parse-fits r = spelled-fits start (λ (b : Start ParseForm). b.taken) (λ f n. refl) parse_forms (start parse.Name 0) r (omega arith)

unlisted-fits : (r : List ℕ) → (unlisted r).taken ≤ length r
unlisted-fits [] = omega arith
unlisted-fits (c ∷ r) = omega arith

symbol-fits : (r : List ℕ) → (symbol_start r).taken ≤ length r
unfolding symbol_start
symbol-fits r = spelled-fits start (λ (b : Start SymbolForm). b.taken) (λ f n. refl) symbol_forms (unlisted r) r (unlisted-fits r)

name-fits : (r : List ℕ) → (name_start r).taken ≤ length r
unfolding name_start
name-fits r =
    either (λ (b : Start NameForm). b.taken ≤ length r) (starts (bytes "??") r) _ _ (λ e. omega (arith, starts-fits (bytes "??") r e))
    (λ e. spelled-fits start (λ (b : Start NameForm). b.taken) (λ f n. refl) name_forms (start name.Plain 0) r (omega arith))

-- characters end in sixteen bits, behind their start
abbrev pub EncodedRoom : ℕ → Encoded → Type 0
EncodedRoom at (Ok c) = (c.start ≤ c.taken) × (at + c.taken < 65536)
EncodedRoom at (Err n) = at + n < 65536

room-encoded : (at most : ℕ) (e : Encoded) → EncodedFits most e → most ≤ longest_symbol - at → at < 65536 → EncodedRoom at e
room-encoded at most (Ok c) f h l = (f.1, omega arith)
room-encoded at most (Err n) f h l = omega arith

module _ (s : List ℕ) (at : ℕ) (short : Short s) (low : at < 65536) where
  pub parse-room : {b : Start ParseForm} → b ≡ parse_start (drop at s) → at + b.taken < 65536
  parse-room e = rw e (place-room s at (parse_start (drop at s)).taken short low (parse-fits (drop at s)))

  pub symbol-room : {b : Start SymbolForm} → b ≡ symbol_start (drop at s) → at + b.taken < 65536
  symbol-room e = rw e (place-room s at (symbol_start (drop at s)).taken short low (symbol-fits (drop at s)))

  pub name-room : {b : Start NameForm} → b ≡ name_start (drop at s) → at + b.taken < 65536
  name-room e = rw e (place-room s at (name_start (drop at s)).taken short low (name-fits (drop at s)))

  pub hex-room : {n : ℕ} → n ≡ read_hex_digits (drop at s) → at + n < 65536
  hex-room e = rw e (place-room s at (read_hex_digits (drop at s)) short low (hex-fits (drop at s)))

  -- by the case that was found
  pub encoded-room : (width : ℕ) {e x : Encoded} → e ≡ read_encoded_string width (drop at s) → e ≡ x → EncodedRoom at x
  encoded-room width e f =
      let l : length (drop at s) ≤ longest_symbol - at = rw (length-drop at s) (omega arith) in
      subst (EncodedRoom at) (sym e ∙ f) (room-encoded at (length (drop at s)) (read_encoded_string width (drop at s)) (encoded-fits width (drop at s)) l low)
