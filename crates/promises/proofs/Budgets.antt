-- Demand 3, over two calls on one symbol with one flag word: depth, nodes and room decide whether a call is answered, and no word of what it says.
-- Assumes nothing.
use Prim.Native.Nat.{ℕ, ◌*◌, ◌≤◌, ◌<◌}
use mathlib.Core.Path.{◌≡◌, refl, sym, ap, ◌∙◌}
use mathlib.Core.List.{List}
use native.Mathlib.Omega.{arith}
use lib.ListN.{length, take}
use lib.Seq.{take_at}
use Rattle.std.specs.Prelude.{Ok, Err}
use Rattle.node.specs.Cells.{nodes}
use Rattle.grammar.specs.Program.{refused}
use Rattle.grammar.specs.declared.Refusal.{Refusal}
use Rattle.reader.specs.Whole.{whole}
use Rattle.text.proofs.Cut.{take-cut-le}
use Rattle.farthingmoss.specs.declared.Counts.{Counts}
use Rattle.farthingmoss.specs.declared.Refused.TheVariants.{NoDerivation, TooDeep, NoNode, NoRoom}
use Rattle.farthingmoss.specs.Call.{refusal, demangled, table_after, text_after}
use Rattle.gates.proofs.Opens.{open-low}
use Rattle.promises.specs.Promises.{own, own_text, counts_in, Within, Accepted, MoreAnswered, MoreRefused, CutBegins, Suffices, TooShallow, TooFew, TooSmall}
use Rattle.promises.proofs.Reading.{open-again, open-answers, settles-shallow, settles-cramped, within-writes}
use Rattle.promises.proofs.Grammar.{accepts, writes, leaves, spills, refuses, begins, accepted, spilled, rejected}
use Rattle.scan.specs.Limits.{deepest_reading}

-- another depth and another table that hold the grammar's own counts
moved : {f depth depth' : ℕ} {s t : List ℕ} (t' : List ℕ) → Within f depth s t → depth' ≤ deepest_reading → (own s).state.deep ≤ depth' → (own s).state.used ≤ nodes t' → Within f depth' s t'
moved {f} {depth} {depth'} {s} t' w low p q = record { opens = open-again f depth depth' s w.opens low; deep = p; used = q }

module _ {c : Counts} (f depth : ℕ) (s t : List ℕ) (room : ℕ) (e : demangled f depth s t room ≡ Ok c) where
  abbrev is : Accepted f depth s t room c
  is = accepted f depth s t room e

  -- the reported counts are the grammar's own
  depth_is : c.depth ≡ (own s).state.deep
  depth_is = ap (λ (x : Counts). x.depth) is.counts

  nodes-is : c.nodes ≡ (own s).state.used
  nodes-is = ap (λ (x : Counts). x.nodes) is.counts

  text-is : c.text ≡ length (own_text f s is.root)
  text-is = ap (λ (x : Counts). x.text) is.counts

  depth_low : c.depth ≤ deepest_reading
  depth_low = omega (arith, open-low f depth s is.holds.opens, is.holds.deep, depth_is)

  module _ (depth' : ℕ) (t' : List ℕ) where
    held : depth' ≤ deepest_reading → c.depth ≤ depth' → c.nodes ≤ nodes t' → Within f depth' s t'
    held low p q = moved t' is.holds low (omega (arith, depth_is)) (omega (arith, nodes-is))

    held_more : depth ≤ depth' → depth' ≤ deepest_reading → nodes t ≤ nodes t' → Within f depth' s t'
    held_more p low q = moved t' is.holds low (omega (arith, is.holds.deep)) (omega (arith, is.holds.used))

    begun : Within f depth' s t' → (b : List ℕ) → room ≤ length b → take c.text (text_after f depth' s t' b) ≡ own_text f s is.root
    begun w b l = ap (take c.text) (writes w is.root b is.derives (omega (arith, is.fits))) ∙ take_at (own_text f s is.root) _ c.text (sym text-is)

  module _ (depth' : ℕ) (t' : List ℕ) (room' : ℕ) where
    -- budgets that hold the reported counts give the same answer
    enough : c.depth ≤ depth' → depth' ≤ deepest_reading → c.nodes ≤ nodes t' → c.text ≤ room' → demangled f depth' s t' room' ≡ Ok c
    enough p low q r = accepts (held depth' t' low p q) is.root room' is.derives (omega (arith, text-is)) ∙ ap Ok (sym is.counts)

    -- more room changes no word of the answer
    more-answered : depth ≤ depth' → depth' ≤ deepest_reading → nodes t ≤ nodes t' → room ≤ room' → demangled f depth' s t' room' ≡ Ok c
    more-answered p low q r = enough (omega (arith, depth_is, is.holds.deep)) low (omega (arith, nodes-is, is.holds.used)) (omega (arith, text-is, is.fits))

    refused-by : {why : Refusal} → depth' ≤ deepest_reading → (whole s depth' t').reply ≡ refused why → demangled f depth' s t' room' ≡ Err (refusal why (whole s depth' t').state.at)
    refused-by low r = open-answers f depth' s t' (open-again f depth depth' s is.holds.opens low) room' ∙ rw r

    -- a depth below the one reported, with nodes enough, is refused by depth
    too-deep : depth' < c.depth → c.nodes ≤ nodes t' → (at : ℕ) × (demangled f depth' s t' room' ≡ Err (TooDeep at))
    too-deep p q =
        let low : depth' ≤ deepest_reading = omega (arith, depth_low) in
        ((whole s depth' t').state.at, refused-by low (settles-shallow s depth' (nodes t') low (omega (arith, depth_is)) (omega (arith, nodes-is))))

    -- fewer nodes than reported, with depth enough, are refused by nodes
    no_node : c.depth ≤ depth' → depth' ≤ deepest_reading → nodes t' < c.nodes → (at : ℕ) × (demangled f depth' s t' room' ≡ Err (NoNode at))
    no_node p low q = ((whole s depth' t').state.at, refused-by low (settles-cramped s depth' (nodes t') low (omega (arith, depth_is)) (omega (arith, nodes-is))))

    -- less room for the text than reported, with the others enough, is refused by room
    no_room : c.depth ≤ depth' → depth' ≤ deepest_reading → c.nodes ≤ nodes t' → room' < c.text → demangled f depth' s t' room' ≡ Err (NoRoom (counts_in room' c))
    no_room p low q r =
        spills (held depth' t' low p q) is.root room' is.derives (omega (arith, text-is))
        ∙ ap (λ (x : Counts). Err (NoRoom (counts_in room' x))) (sym is.counts)

  -- more room changes no word of the text
  pub more-text : (depth' : ℕ) (t' b b' : List ℕ) → depth ≤ depth' → depth' ≤ deepest_reading → nodes t ≤ nodes t' → room ≡ length b → room ≤ length b' → take c.text (text_after f depth' s t' b') ≡ take c.text (text_after f depth s t b)
  more-text depth' t' b b' p low q z r = begun depth' t' (held_more depth' t' p low q) b' r ∙ sym (begun depth t is.holds b (omega arith))

  -- nor of the nodes
  more-nodes : (depth' : ℕ) (t' : List ℕ) → depth ≤ depth' → depth' ≤ deepest_reading → nodes t ≤ nodes t' → take (c.nodes * 12) (table_after f depth' s t') ≡ take (c.nodes * 12) (table_after f depth s t)
  more-nodes depth' t' p low q = rw nodes-is (leaves (held_more depth' t' p low q) is.root is.derives ∙ sym (leaves is.holds is.root is.derives))

pub answered-more : MoreAnswered
answered-more f depth depth' s t t' b b' c e p low q r =
    (more-answered f depth s t (length b) e depth' t' (length b') p low q r, more-text f depth s t (length b) e depth' t' b b' p low q refl r, more-nodes f depth s t (length b) e depth' t' p low q)

pub refused-more : MoreRefused
refused-more f depth depth' s t t' room room' at e p low q =
    let r = rejected f depth s t room e in
    refuses (moved t' r.holds low (omega (arith, r.holds.deep)) (omega (arith, r.holds.used))) room' r.refuses ∙ ap Err (ap NoDerivation (sym r.place))

-- a text cut for room begins the text of a call with no less
pub cut-begins : CutBegins
cut-begins f depth depth' s t t' b b' c e p low q l =
    let r = spilled f depth s t (length b) e in
    let w = moved t' r.holds low (omega (arith, r.holds.deep)) (omega (arith, r.holds.used)) in
    begins r.holds r.root b r.derives r.over
    ∙ sym (ap (take (length b)) (within-writes w b' ∙ rw r.derives) ∙ take-cut-le b' (own_text f s r.root) (length b) l (omega (arith, r.over)))

pub counts-suffice : Suffices
counts-suffice f depth depth' s t t' room room' c e = enough f depth s t room e depth' t' room'

pub too_shallow : TooShallow
too_shallow f depth depth' s t t' room room' c e = too-deep f depth s t room e depth' t' room'

pub too_few : TooFew
too_few f depth depth' s t t' room room' c e = no_node f depth s t room e depth' t' room'

pub too_small : TooSmall
too_small f depth depth' s t t' room room' c e = no_room f depth s t room e depth' t' room'
