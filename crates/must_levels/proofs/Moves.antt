-- Steps of a node, over plain variables.
use Rattle.std.proofs.Common.{◌≡◌, ℕ, Bool, true, false, List, [], ◌∷◌, ◌++◌, Option, Some, Result, Ok, Err, IfOk, refl, sym, ap, ◌∙◌, subst}
use Rattle.must_entry.specs.declared.batch.Batch.{Batch}
use Rattle.must_entry.specs.declared.range.RankRange.{RankRange}
use Rattle.must_entry.specs.Lawful.{IsLawful}
use Rattle.std.specs.declared.alloc.Global.{Global}
use Rattle.crossbeam_queue.specs.SegTies.{SegId}
use Rattle.must_entry.specs.Entries.{entries_of}
use Rattle.must_inbox.specs.Children.{batches_of, AreCovered, IsOrderly, HasAll}
use Rattle.must_inbox.specs.ChildLaws.{together, batches_of-append}
use Rattle.must_inbox.specs.RankLaws.{lawful_front, lawful_none}
use Rattle.must_inbox.specs.States.{TakerState, PortState}
use Rattle.must_node.specs.declared.node.Node.{Node}
use Rattle.must_node.specs.declared.closed.Closed.{Closed}
use Rattle.must_node.specs.Inner.{inner}
use Rattle.must_levels.specs.declared.fault.RunFault.{RunFault}
use Rattle.must_levels.specs.Telling.{Adds}
use Rattle.must_node.specs.HandingLaws.{handed_lawful}
use Rattle.must_node.specs.Nodes.{StandsFor, all_up}
use Rattle.must_levels.specs.Sending.{IsMoved}
use Rattle.must_levels.specs.Running.{Passed, CanTake, HasTaken, Finished}

none_up : (range : RankRange) (bs : List Batch) → all_up true range bs ≡ []
none_up range [] = refl
none_up range (b ∷ bs) = none_up range bs

-- what a node hands up is lawful, also at a root
pub up_lawful : (root : Bool) (range : RankRange) (bs : List Batch) → IsLawful range bs → IsLawful range (all_up root range bs)
up_lawful true range bs l = subst (IsLawful range) (sym (none_up range bs)) (lawful_none range)
up_lawful false range bs l = handed_lawful range bs l

-- what was handed up so far
pub handed_so_far : (root : Bool) (range : RankRange) (node : Node) (taken handed : List Batch) → StandsFor node range root taken handed → IsLawful range taken → IsLawful range handed
handed_so_far root range node taken handed s l = lawful_front range handed node.ready.items (subst (IsLawful range) (sym s.hands) (up_lawful root range taken l))

pub range_stays : (p0 p : PortState) → p ≡ record p0 { sent = p.sent } → p.range ≡ p0.range
range_stays p0 p same = ap (λ (r : PortState). r.range) same

-- a port that has this list at its end
pub moves : (p0 p : PortState) → p ≡ record p0 { sent = p.sent } → IsLawful p0.range p.sent → IsMoved p0 p
moves p0 p same law = (same, subst (λ (r : RankRange). IsLawful r p.sent) (sym (range_stays p0 p same)) law)

pub same_more : (p0 p q : PortState) → p ≡ record p0 { sent = p.sent } → q ≡ record p { sent = q.sent } → q ≡ record p0 { sent = q.sent }
same_more p0 p q same more = more ∙ ap (λ (r : PortState). record r { sent = q.sent }) same

pub pushed_same : (p q : PortState) (b : Batch) → q ≡ record p { sent = p.sent ++ b ∷ [] } → q ≡ record p { sent = q.sent }
pushed_same p q b more = more ∙ ap (λ (l : List Batch). record p { sent = l }) (sym (ap (λ (r : PortState). r.sent) more))

pub stays_same : (p q : PortState) → q ≡ p → q ≡ record p { sent = q.sent }
stays_same p q e = e ∙ ap (λ (l : List Batch). record p { sent = l }) (sym (ap (λ (r : PortState). r.sent) e))

pub moved_twice : (p q r : PortState) → IsMoved p q → IsMoved q r → IsMoved p r
moved_twice p q r a b = (same_more p q r a.0 b.0, b.1)

pub batches_snoc : (ms : List (ℕ × Batch)) (m : ℕ × Batch) → batches_of (ms ++ m ∷ []) ≡ batches_of ms ++ m.1 ∷ []
batches_snoc ms m = batches_of-append ms (m ∷ [])

pub got_more : (old new : TakerState) (m : ℕ × Batch) → new ≡ record old { got = old.got ++ m ∷ [] } → batches_of new.got ≡ batches_of old.got ++ m.1 ∷ []
got_more old new m is = ap (λ (s : TakerState). batches_of s.got) is ∙ batches_snoc old.got m

-- what a taker has is lawful for a range that covers those of its ports
pub got_lawful : (old new : TakerState) (m : ℕ × Batch) (range : RankRange) → new ≡ record old { got = old.got ++ m ∷ [] } → AreCovered old.ranges range → IsOrderly new.ranges new.got → IsLawful range (batches_of new.got)
got_lawful old new m range is covered orderly = together range new.ranges new.got orderly (subst (λ l. AreCovered l range) (sym (ap (λ (s : TakerState). s.ranges) is)) covered)

pub got_same : (old new : TakerState) (m : ℕ × Batch) → new ≡ record old { got = old.got ++ m ∷ [] } → new ≡ record old { got = new.got }
got_same old new m is = is ∙ ap (λ l. record old { got = l }) (sym (ap (λ (s : TakerState). s.got) is))

-- ---- taking

-- a port that sends nothing now
pub idle : (root : Bool) (inbox upper : SegId Global) (t : TakerState) (n : Node) (p : PortState) → CanTake root inbox upper t n p → IsMoved p p
idle root inbox upper t n p c = (refl, handed_so_far root p.range n (batches_of t.got) p.sent c.passed.stands c.passed.lawful)

pub idle_taken : (root : Bool) (inbox upper : SegId Global) (t : TakerState) (n : Node) (p : PortState) → CanTake root inbox upper t n p → HasTaken t t p p
idle_taken root inbox upper t n p c = record { taker_is = refl; port_is = idle root inbox upper t n p c }

pub none_taken : (root : Bool) (inbox upper : SegId Global) (t u : TakerState) (n : Node) (p : PortState) → CanTake root inbox upper t n p → u ≡ t → HasTaken t u p p
none_taken root inbox upper t u n p c e = record { taker_is = e ∙ ap (λ l. record t { got = l }) (sym (ap (λ (s : TakerState). s.got) e)); port_is = idle root inbox upper t n p c }

pub one_taken : (root : Bool) (inbox upper : SegId Global) (t u : TakerState) (n : Node) (p : PortState) (m : ℕ × Batch) → CanTake root inbox upper t n p → u ≡ record t { got = t.got ++ m ∷ [] } → HasTaken t u p p
one_taken root inbox upper t u n p m c e = record { taker_is = got_same t u m e; port_is = idle root inbox upper t n p c }

pub taken_lawful : (root : Bool) (inbox upper : SegId Global) (t u : TakerState) (n : Node) (p : PortState) (m : ℕ × Batch) → CanTake root inbox upper t n p → u ≡ record t { got = t.got ++ m ∷ [] } → IsOrderly u.ranges u.got → IsLawful p.range (batches_of t.got ++ m.1 ∷ [])
taken_lawful root inbox upper t u n p m c e o = subst (IsLawful p.range) (got_more t u m e) (got_lawful t u m p.range e c.covered o)

pub passed_on : (root : Bool) (u : TakerState) (n : Node) (p q : PortState) (taken : List Batch) → batches_of u.got ≡ taken → IsMoved p q → StandsFor n p.range root taken q.sent → q.sent ≡ all_up root p.range taken → IsLawful p.range taken → Passed root u n q
passed_on root u n p q taken e moved stands all law =
    let range = range_stays p q moved.0 in record {
      stands = subst (λ (x : RankRange × List Batch). StandsFor n x.0 root x.1 q.sent) (λ i. (sym range i, sym e i)) stands;
      all = all ∙ ap (λ (x : RankRange × List Batch). all_up root x.0 x.1) (λ i. (sym range i, sym e i));
      lawful = subst (λ (x : RankRange × List Batch). IsLawful x.0 x.1) (λ i. (sym range i, sym e i)) law;
    }

pub can_again : (root : Bool) (inbox upper : SegId Global) (t u : TakerState) (n o : Node) (p q : PortState) → CanTake root inbox upper t n p → HasTaken t u p q → Passed root u o q → CanTake root inbox upper u o q
can_again root inbox upper t u n o p q c h passed = record {
  taker_is = ap (λ (s : TakerState). s.inbox) h.taker_is ∙ c.taker_is;
  port_is = ap (λ (s : PortState). s.inbox) h.port_is.0 ∙ c.port_is;
  covered = subst (λ (x : List RankRange × RankRange). AreCovered x.0 x.1) (λ i. (sym (ap (λ (s : TakerState). s.ranges) h.taker_is) i, sym (range_stays p q h.port_is.0) i)) c.covered;
  passed = passed;
}

pub taken_twice : (t u v : TakerState) (p q r : PortState) → HasTaken t u p q → HasTaken u v q r → HasTaken t v p r
taken_twice t u v p q r a b = record {
  taker_is = b.taker_is ∙ ap (λ (s : TakerState). record s { got = v.got }) a.taker_is;
  port_is = moved_twice p q r a.port_is b.port_is;
}

pub finished : (root : Bool) (ranges : List RankRange) (joined : List (ℕ × List Batch)) (below : Option Closed) (t : TakerState) (n : Node) (p : PortState) (r : Result Closed RunFault) → Passed root t n p → IsOrderly t.ranges t.got → HasAll t.joined t.got → t.ranges ≡ ranges → t.joined ≡ joined
    → IfOk r (λ all. Adds below (inner root p.range (entries_of (batches_of t.got))) (Some all)) → IfOk r (λ closed. Finished root ranges joined below p (Some closed))
finished root ranges joined below t n p (Err e) passed o all same_ranges same_joined adds = tt
finished root ranges joined below t n p (Ok closed) passed o all same_ranges same_joined adds = record {
  got = t.got;
  orderly = subst (λ l. IsOrderly l t.got) same_ranges o;
  all = subst (λ l. HasAll l t.got) same_joined all;
  sent = passed.all;
  adds = adds;
}
