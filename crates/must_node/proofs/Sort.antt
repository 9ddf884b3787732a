-- One entry more, inner or not.
use Rattle.std.proofs.Common.{◌≡◌, Bool, true, false, cond, List, [], ◌∷◌, ◌++◌, sym, ap, subst, ◌∙◌, append_assoc}
use Rattle.std.specs.Prelude.{filter, Result, Ok, Err, OnOk}
use Rattle.std.proofs.lemmas.List.Elements.{filter-append}
use Rattle.must_p2p.specs.Items.{Orderly}
use Rattle.must_p2p.specs.ClassLaws.{orderly_front}
use Rattle.must_coll.specs.Waves as waves
use Rattle.must_entry.specs.declared.entry.Entry.{Entry}
use Rattle.must_entry.specs.declared.range.RankRange.{RankRange}
use Rattle.must_entry.specs.declared.batch.Batch.{Batch}
use Rattle.must_entry.specs.Entries.{message_of, messages, call_of, calls, entries_of}
use Rattle.must_entry.specs.Lawful.{IsLawful}
use Rattle.must_node.specs.declared.settled.Settled.{Settled}
use Rattle.must_node.specs.declared.node.Node.{Node}
use Rattle.must_node.specs.Inner.{inner}
use Rattle.must_node.specs.Nodes.{StandsFor, all_up, up}
use Rattle.must_node.specs.Settling.{Knows}
use Rattle.must_node.specs.ListLaws.{flat_append, flat_push, kept_push, left_push}
use Rattle.must_node.specs.OrderLaws.{lawful_order, lawful_calls, calls_front, inner_push}

regroup : (p : Entry → Bool) (g ys : List Entry) (e : Entry) (rest : List Entry) → p e ≡ true → g ++ filter p (ys ++ e ∷ rest) ≡ ((g ++ filter p ys) ++ e ∷ []) ++ filter p rest
regroup p g ys e rest is =
    ap (λ (l : List Entry). g ++ l) (filter-append p ys (e ∷ rest) ∙ ap (λ b. filter p ys ++ cond b (e ∷ filter p rest) (filter p rest)) is)
    ∙ sym (append_assoc g (filter p ys) (e ∷ filter p rest)) ∙ sym (append_assoc (g ++ filter p ys) (e ∷ []) (filter p rest))

-- what is given up to an inner entry comes in order, where all does
pub orderly_upto : (p : Entry → Bool) (g ys : List Entry) (e : Entry) (rest all : List Entry) → p e ≡ true → ys ++ e ∷ rest ≡ all → Orderly (messages (g ++ filter p all)) → Orderly (messages ((g ++ filter p ys) ++ e ∷ []))
orderly_upto p g ys e rest all is whole o =
    let given : Orderly (messages (g ++ filter p (ys ++ e ∷ rest))) = subst (λ (l : List Entry). Orderly (messages (g ++ filter p l))) (sym whole) o in
    orderly_front (messages ((g ++ filter p ys) ++ e ∷ [])) (messages (filter p rest))
    (subst Orderly (ap messages (regroup p g ys e rest is) ∙ flat_append message_of ((g ++ filter p ys) ++ e ∷ []) (filter p rest)) given)

pub calls_upto : (p : Entry → Bool) (g ys : List Entry) (e : Entry) (rest all : List Entry) → p e ≡ true → ys ++ e ∷ rest ≡ all → waves.Orderly (calls (g ++ filter p all)) → waves.Orderly (calls ((g ++ filter p ys) ++ e ∷ []))
calls_upto p g ys e rest all is whole o =
    let given : waves.Orderly (calls (g ++ filter p (ys ++ e ∷ rest))) = subst (λ (l : List Entry). waves.Orderly (calls (g ++ filter p l))) (sym whole) o in
    calls_front (calls ((g ++ filter p ys) ++ e ∷ [])) (calls (filter p rest)) (subst waves.Orderly (ap calls (regroup p g ys e rest is) ∙ flat_append call_of ((g ++ filter p ys) ++ e ∷ []) (filter p rest)) given)

pub knows_kept : (p : Entry → Bool) (s : Settled) (g ys : List Entry) (e : Entry) → p e ≡ true → Knows s ((g ++ filter p ys) ++ e ∷ []) → Knows s (g ++ filter p (ys ++ e ∷ []))
knows_kept p s g ys e is k = subst (λ (l : List Entry). Knows s l) (append_assoc g (filter p ys) (e ∷ []) ∙ ap (λ (l : List Entry). g ++ l) (sym (kept_push p ys e is))) k

pub knows_left : (p : Entry → Bool) (s : Settled) (g ys : List Entry) (e : Entry) → p e ≡ false → Knows s (g ++ filter p ys) → Knows s (g ++ filter p (ys ++ e ∷ []))
knows_left p s g ys e is k = subst (λ (l : List Entry). Knows s l) (ap (λ (l : List Entry). g ++ l) (sym (left_push p ys e is))) k

-- a batch is sorted out
pub knows_batch : (new : Settled) (root : Bool) (range : RankRange) (h : List Batch) (b : Batch) (items : List Entry) → items ≡ b.entries
    → (Orderly (messages (inner root range (entries_of h) ++ inner root range items)) → waves.Orderly (calls (inner root range (entries_of h) ++ inner root range items)) → Knows new (inner root range (entries_of h) ++ inner root range items))
    → IsLawful range (h ++ b ∷ []) → Knows new (inner root range (entries_of (h ++ b ∷ [])))
knows_batch new root range h b items is knows lawful =
    let e : inner root range (entries_of (h ++ b ∷ [])) ≡ inner root range (entries_of h) ++ inner root range items =
    inner_push root range h b ∙ ap (λ (l : List Entry). inner root range (entries_of h) ++ inner root range l) (sym is) in
    subst (λ (l : List Entry). Knows new l) (sym e) (knows (subst (λ (l : List Entry). Orderly (messages l)) e (lawful_order root range (h ++ b ∷ []) lawful)) (subst (λ (l : List Entry). waves.Orderly (calls l)) e (lawful_calls root range (h ++ b ∷ []) lawful)))

-- a batch is taken: what it leaves stands ready behind the rest
pub takes : (old new : Node) (range : RankRange) (root : Bool) (taken handed : List Batch) (b : Batch) → StandsFor old range root taken handed → (new.range ≡ old.range) × (new.root ≡ old.root)
    → Knows new.settled (inner old.root old.range (entries_of (taken ++ b ∷ []))) → new.ready.items ≡ old.ready.items ++ up old.root old.range b → StandsFor new range root (taken ++ b ∷ []) handed
takes old new range root taken handed b stands same knows ready = record {
  range_is = same.0 ∙ stands.range_is;
  root_is = same.1 ∙ stands.root_is;
  knows = subst (λ r. Knows new.settled (inner root r (entries_of (taken ++ b ∷ [])))) stands.range_is (subst (λ r. Knows new.settled (inner r old.range (entries_of (taken ++ b ∷ [])))) stands.root_is knows);
  hands = ap (λ (l : List Batch). handed ++ l) ready ∙ sym (append_assoc handed old.ready.items (up old.root old.range b)) ∙ ap (λ (l : List Batch). l ++ up old.root old.range b) stands.hands
      ∙ ap (λ r. all_up root range taken ++ up r old.range b) stands.root_is ∙ ap (λ r. all_up root range taken ++ up root r b) stands.range_is ∙ sym (flat_push (up root range) taken b);
}

-- the node knows what it was given under its own range
pub knows_own : (node : Node) (range : RankRange) (root : Bool) (taken handed : List Batch) → StandsFor node range root taken handed → Knows node.settled (inner node.root node.range (entries_of taken))
knows_own node range root taken handed stands =
    subst (λ r. Knows node.settled (inner node.root r (entries_of taken))) (sym stands.range_is) (subst (λ r. Knows node.settled (inner r range (entries_of taken))) (sym stands.root_is) stands.knows)

-- the same of what may have failed
pub takes_ok : {T E : Type 0} (r : Result T E) (old new : Node) (range : RankRange) (root : Bool) (taken handed : List Batch) (b : Batch) → StandsFor old range root taken handed → OnOk r ((new.range ≡ old.range) × (new.root ≡ old.root))
    → OnOk r (Knows new.settled (inner old.root old.range (entries_of (taken ++ b ∷ [])))) → OnOk r (new.ready.items ≡ old.ready.items ++ up old.root old.range b) → OnOk r (StandsFor new range root (taken ++ b ∷ []) handed)
takes_ok (Ok t) old new range root taken handed b stands same knows ready = takes old new range root taken handed b stands same knows ready
takes_ok (Err e) old new range root taken handed b stands same knows ready = tt
