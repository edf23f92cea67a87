-- What a type begins with, by its table: the bytes of a spelling that stands are there, a basic type's number is small, and the production goes on by what was chosen.
-- Assumes nothing.
use Prim.Native.Nat.{ℕ, ◌+◌, ◌≤◌, ◌<◌, max}
use Prim.Native.String.{String}
use mathlib.Core.Path.{◌≡◌, refl, sym, ap, subst, ◌∙◌}
use mathlib.Core.List.{List, [], ◌∷◌}
use native.Mathlib.Omega.{arith}
use lib.ListN.{length, drop, length-drop}
use Rattle.std.specs.Prelude.{Option, Some, None, Ok}
use Rattle.scan.specs.Bytes.{pick, bytes, starts, spelled, up_to}
use Rattle.letters.proofs.Spelled.{either, spelled-fits}
use Rattle.forms.specs.Start.{start}
use Rattle.forms.specs.declared.start.Start.{Start}
use Rattle.forms.specs.Types.{type_forms, type_start, head, type_letters, type_letter}
use Rattle.forms.specs.declared.types.TypeForm.{TypeForm}
use Rattle.forms.specs.declared.types.TypeForm.TheVariants as form
use Rattle.forms.specs.declared.types.TypeLetter.{TypeLetter}
use Rattle.grammar.specs.Program.{fail, run, at+}
use Rattle.grammar.specs.Words.{◌⇒◌∥◌, ordered}
use Rattle.grammar.specs.Table.{same_table, shut_table, read_table}
use Rattle.grammar.specs.Grammar.{Reading, body, letter_type, no_letter, plain_type, form_type, var_type_body}
use Rattle.grammar.specs.declared.State.{State}
use Rattle.grammar.proofs.Ordered.{no_bytes}
use Rattle.steps.specs.Does.{runs, Leads}
use Rattle.steps.proofs.Leads.{leads-as, leads-ordered}
use Rattle.shapes.specs.Shapes.{basic_of}
use Rattle.scan.specs.Limits.{Short}

-- places stay within sixteen bits
pub place-room : (s : List ℕ) (at n : ℕ) → Short s → at < 65536 → n ≤ length (drop at s) → at + n < 65536
place-room s at n short low h = let e = length-drop at s in omega arith

start_fits : (r : List ℕ) → (type_start r).taken ≤ length r
unfolding type_start
start_fits r = spelled-fits start (λ (b : Start TypeForm). b.taken) (λ x n. refl) type_forms (start form.Plain 0) r (omega arith)

-- bytes of no letter
abbrev pub none_at : List ℕ → Start (Option TypeLetter)
none_at r = start None (up_to (pick (starts (bytes "_") r) 2 1) r)

head-fits : (r : List ℕ) → (type_letter r).taken ≤ length r
unfolding type_letter
head-fits r = spelled-fits head (λ (h : Start (Option TypeLetter)). h.taken) (λ x n. refl) type_letters (none_at r) r (omega arith)

pub start-room : (s : List ℕ) (at : ℕ) → Short s → at < 65536 → {b : Start TypeForm} → b ≡ type_start (drop at s) → at + b.taken < 65536
start-room s at short low e = rw e (place-room s at (type_start (drop at s)).taken short low (start_fits (drop at s)))

pub head-room : (s : List ℕ) (at : ℕ) → Short s → at < 65536 → {h : Start (Option TypeLetter)} → h ≡ type_letter (drop at s) → at + h.taken < 65536
head-room s at short low e = rw e (place-room s at (type_letter (drop at s)).taken short low (head-fits (drop at s)))

-- the largest number among a table's values
abbrev largest : {X : Type 0} → (X → ℕ) → List (String × X) → ℕ
largest f [] = 0
largest f ((t, x) ∷ ts) = max (f x) (largest f ts)

spelled-most :
    {X A : Type 0} (make : X → ℕ → A) (f : X → ℕ) (g : A → ℕ) → ((x : X) (n : ℕ) → g (make x n) ≡ f x) → (most : ℕ) (table : List (String × X)) (other : A) (r : List ℕ) →
    g other ≤ most → largest f table ≤ most → g (spelled make table other r) ≤ most
spelled-most make f g says most [] other r h m = h
spelled-most make f g says most (t ∷ ts) other r h m =
    either (λ a. g a ≤ most) (starts (bytes t.0) r) _ _
    (λ e. rw (says t.1 (length (bytes t.0))) (omega arith))
    (λ e. spelled-most make f g says most ts other r h (omega arith))

abbrev basic_in : Option TypeLetter → ℕ
basic_in (Some l) = basic_of l
basic_in None = 0

small-head : (r : List ℕ) → basic_in (type_letter r).form ≤ 21
unfolding type_letter
small-head r = spelled-most head basic_of (λ (h : Start (Option TypeLetter)). basic_in h.form) (λ x n. refl) 21 type_letters (none_at r) r (omega arith) (omega arith)

pub head_small : {h : Start (Option TypeLetter)} {l : TypeLetter} (r : List ℕ) → h ≡ type_letter r → h.form ≡ Some l → basic_of l ≤ 21
head_small r e f = subst (λ (o : Option TypeLetter). basic_in o ≤ 21) (ap (λ (h : Start (Option TypeLetter)). h.form) (sym e) ∙ f) (small-head r)

-- a table whose last choice refuses: its values are some, and none is left
abbrev somes : {X : Type 0} → List (String × X) → List (String × Option X)
somes [] = []
somes ((t, x) ∷ ts) = (t, Some x) ∷ somes ts

abbrev pub or_fail : {X A : Type 0} → (X → Reading A) → Option X → Reading A
or_fail k (Some x) = k x
or_fail k None = fail

ordered-somes : {X A : Type 0} (table : List (String × X)) (k : X → Reading A) (p : Reading A) → ordered table k p ≡ ordered (somes table) (or_fail k) p
ordered-somes [] k p = refl
ordered-somes ((t, x) ∷ ts) k p = ap (λ q. t ⇒ k x ∥ q) (ordered-somes ts k p)

spelled-somes : (table : List (String × TypeLetter)) (other : Start (Option TypeLetter)) (r : List ℕ) → spelled head table other r ≡ spelled start (somes table) other r
spelled-somes [] other r = refl
spelled-somes ((t, l) ∷ ts) other r = ap (λ (b : Start (Option TypeLetter)). pick (starts (bytes t) r) (head l (length (bytes t))) b) (spelled-somes ts other r)

-- the productions go on by what was chosen
none-refused :
    (s : List ℕ) (sc : ℕ) (st : State) (limit room d : ℕ) (t : List ℕ) →
    runs s limit room d no_letter st t ≡ runs s limit room d (or_fail (letter_type sc) None) (at+ (none_at (drop st.at s)).taken st) t
unfolding run
none-refused s sc st limit room d t = refl

pub leads-letter : {s : List ℕ} (sc : ℕ) {h : Start (Option TypeLetter)} {st : State} → h ≡ type_letter (drop st.at s) → Leads s (plain_type sc) st (or_fail (letter_type sc)) (Ok h.form) (at+ h.taken st)
unfolding plain_type type_letter
leads-letter {s} sc {h} {st} e =
    leads-as (ordered-somes type_letters (letter_type sc) no_letter)
    (leads-ordered start (λ (h : Start (Option TypeLetter)). h.form) (λ (h : Start (Option TypeLetter)). h.taken) (λ x n. (refl, refl)) (or_fail (letter_type sc)) (somes type_letters) no_letter
    (none_at (drop st.at s)) (e ∙ spelled-somes type_letters (none_at (drop st.at s)) (drop st.at s)) (λ limit room d t c. none-refused s sc st limit room d t))

none-plain : (s : List ℕ) (sc : ℕ) (st : State) (limit room d : ℕ) (t : List ℕ) → runs s limit room d (plain_type sc) st t ≡ runs s limit room d (form_type sc form.Plain) (at+ 0 st) t
unfolding form_type
none-plain s sc st limit room d t = no_bytes s (same_table s) (shut_table limit room) (read_table body s limit room d) (plain_type sc) st t

pub leads-form : {s : List ℕ} (sc : ℕ) {b : Start TypeForm} {st : State} → b ≡ type_start (drop st.at s) → Leads s (var_type_body sc) st (form_type sc) (Ok b.form) (at+ b.taken st)
unfolding var_type_body type_start
leads-form {s} sc {b} {st} e =
    leads-ordered start (λ (b : Start TypeForm). b.form) (λ (b : Start TypeForm). b.taken) (λ x n. (refl, refl)) (form_type sc) type_forms (plain_type sc) (start form.Plain 0) e (λ limit room d t c. none-plain s sc st limit room d t)
