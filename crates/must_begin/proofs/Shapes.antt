-- What the sides of calls say of messages, kind by kind.
use Rattle.std.proofs.Common.{◌≡◌, ℕ, Bool, true, false, cond, List, [], ◌∷◌, Option, Some, None, inl, inr, refl, ap, subst, ◌∙◌, nat_eq, arith}
use Rattle.std.specs.Prelude.{◌⊎◌, ℤ, pos, is_some}
use Rattle.std.specs.List.{cons_option}
use Rattle.must_call.specs.declared.kind.Kind.{Kind}
use Rattle.must_call.specs.declared.kind.Kind.TheVariants as kind
use Rattle.must_call.specs.declared.field.Side.{Side}
use Rattle.must_call.specs.declared.field.Side.TheVariants as side
use Rattle.must_call.specs.declared.field.Field.TheVariants.{Buffer}
use Rattle.must_call.specs.declared.body.Body.{Body}
use Rattle.must_call.specs.declared.persist.Persist.{Persist as Persistent}
use Rattle.must_call.specs.declared.point.Point.{Point as Pointed}
use Rattle.must_call.specs.declared.body.Body.TheVariants.{Frame, Point, Finish, Derive, Object, Collective, Persist, Started}
use Rattle.must_call.specs.Fields as fields
use Rattle.must_call.specs.Values.{Values, Outcome}
use Rattle.must_call.specs.Kinds.{kind_of}
use Rattle.must_call.specs.Bodies.{inputs_of, body_of}
use Rattle.must_call.specs.BodyLaws.{again}
use Rattle.must_type.specs.Tree.{TypeTree}
use Rattle.must_type.specs.Constructs.{natural}
use Rattle.must_rules.specs.Facts.{Facts, Comm}
use Rattle.must_rules.specs.Significant.{first_told, comm_of}
use Rattle.must_rules.specs.Breaches.{part_in}
use Rattle.must_rules.specs.Making.{is_persistent_kind, started_of}
use Rattle.must_call.specs.declared.persist.Persist.TheVariants.{SendInit, SsendInit, RecvInit, Start, Startall}
use Rattle.must_rules.specs.UsableParts.{peer_in, type_in, is_usable}
use Rattle.must_rules.specs.Parts.{Part, with_both, counted, part_at, part_told, parts_of, numbered}
use Rattle.must_rules.specs.Operations.{tag_in, waits_for_probe}
use Rattle.must_rules.specs.Parts.{datatype_of}
use Rattle.must_begin.specs.declared.terms.Terms.{Terms}
use Rattle.must_begin.specs.Terms.{count_in, terms_by, terms_of}

-- ---- parts by their numbers

-- it has a number, or hasn't
abbrev pub HasNumber : ℕ → Bool → Option Part → Type 0
HasNumber n v None = Unit {0}
HasNumber n v (Some p) = nat_eq p.number n ≡ v

told_number : (n : ℕ) (v u : Bool) (f : Comm → TypeTree → Part) (comm : Option Comm) (tree : Option TypeTree) → ((c : Comm) (t : TypeTree) → nat_eq (f c t).number n ≡ v) → HasNumber n v (cond u (with_both f comm tree) None)
told_number n v true f (Some c) (Some t) e = e c t
told_number n v true f (Some c) None e = tt
told_number n v true f None tree e = tt
told_number n v false f comm tree e = tt

alone : (n : ℕ) (p : Option Part) → HasNumber n true p → numbered n (cons_option p []) ≡ p
alone n None h = refl
alone n (Some p) h = ap (λ (b : Bool). cond b (Some p) None) h

first_of_two : (n : ℕ) (p q : Option Part) → HasNumber n true p → HasNumber n false q → numbered n (cons_option p (cons_option q [])) ≡ p
first_of_two n (Some p) q h k = ap (λ (b : Bool). cond b (Some p) (numbered n (cons_option q []))) h
first_of_two n None None h k = refl
first_of_two n None (Some q) h k = ap (λ (b : Bool). cond b (Some q) None) k

second_of_two : (n : ℕ) (p q : Option Part) → HasNumber n false p → HasNumber n true q → numbered n (cons_option p (cons_option q [])) ≡ q
second_of_two n None q h k = alone n q k
second_of_two n (Some p) q h k = ap (λ (b : Bool). cond b (Some p) (numbered n (cons_option q []))) h ∙ alone n q k

-- ---- shapes

-- what the fields of a side say, where the call names another end for it and has a buffer there
pub record IsTransfer (b : Body) (s : Side) (t : Terms) : Type 0 where
  pub peer_is : first_told (peer_in s) (inputs_of b) ≡ Some t.peer
  pub tag_is : first_told (tag_in s) (inputs_of b) ≡ Some t.tag
  pub type_is : first_told (type_in s) (inputs_of b) ≡ Some t.dtype
  pub part_is : t.part ≡ part_in b (Buffer s)
  pub address : ℕ
  pub told_is : (facts : Facts) (types : ℕ → Option TypeTree) → numbered (part_in b (Buffer s)) (parts_of facts types b) ≡ part_told facts types b (Buffer s) address
  pub blocks_are : (facts : Facts) (comm : Comm) (tree : TypeTree) → (part_at facts b s address comm tree).blocks ≡ counted (pos address) (natural t.count) ∷ []

-- a side without terms names no other end, or its call has no parts
abbrev pub Shape : (b : Body) (s : Side) → Option Terms → Type 0
Shape b s None = (first_told (peer_in s) (inputs_of b) ≡ None) ⊎ ((facts : Facts) (types : ℕ → Option TypeTree) → parts_of facts types b ≡ [])
Shape b s (Some t) = IsTransfer b s t

no_peer : (b : Body) (s : Side) → first_told (peer_in s) (inputs_of b) ≡ None → Shape b s (terms_of b s)
no_peer b s e = at (first_told (peer_in s) (inputs_of b)) e
  where
    at : (p : Option ℤ) → p ≡ None → Shape b s (terms_by (part_in b (Buffer s)) p (first_told (tag_in s) (inputs_of b)) (first_told (count_in s) (inputs_of b)) (first_told (type_in s) (inputs_of b)))
    at None f = inl e
    at (Some z) f = let no : Some z ≡ None = f in absurd cc

same : (n : ℕ) → nat_eq n n ≡ true
same n = grind arith

-- a call with one buffer
one : (b : Body) (s : Side) (address : ℕ) (facts : Facts) (types : ℕ → Option TypeTree) → numbered (part_in b (Buffer s)) (cons_option (part_told facts types b (Buffer s) address) []) ≡ part_told facts types b (Buffer s) address
one b s address facts types =
    let n = part_in b (Buffer s) in
    alone n (part_told facts types b (Buffer s) address)
    (told_number n true (is_usable facts (λ h. is_some (types h)) b n) (part_at facts b s address) (comm_of facts b) (datatype_of types b s) (λ c t. same n))

-- what is sent and what is received by one call
sent_beside : (b : Body) (sbuf rbuf : ℕ) (facts : Facts) (types : ℕ → Option TypeTree) → part_in b (Buffer side.Send) ≡ 0 → part_in b (Buffer side.Receive) ≡ 1
    → numbered 0 (cons_option (part_told facts types b (Buffer side.Send) sbuf) (cons_option (part_told facts types b (Buffer side.Receive) rbuf) [])) ≡ part_told facts types b (Buffer side.Send) sbuf
sent_beside b sbuf rbuf facts types sent taken =
    let sound : ℕ → Bool = λ h. is_some (types h) in
    first_of_two 0 (part_told facts types b (Buffer side.Send) sbuf) (part_told facts types b (Buffer side.Receive) rbuf)
    (told_number 0 true (is_usable facts sound b (part_in b (Buffer side.Send))) (part_at facts b side.Send sbuf) (comm_of facts b) (datatype_of types b side.Send) (λ c t. ap (λ (n : ℕ). nat_eq n 0) sent))
    (told_number 0 false (is_usable facts sound b (part_in b (Buffer side.Receive))) (part_at facts b side.Receive rbuf) (comm_of facts b) (datatype_of types b side.Receive) (λ c t. ap (λ (n : ℕ). nat_eq n 0) taken))

taken_beside : (b : Body) (sbuf rbuf : ℕ) (facts : Facts) (types : ℕ → Option TypeTree) → part_in b (Buffer side.Send) ≡ 0 → part_in b (Buffer side.Receive) ≡ 1
    → numbered 1 (cons_option (part_told facts types b (Buffer side.Send) sbuf) (cons_option (part_told facts types b (Buffer side.Receive) rbuf) [])) ≡ part_told facts types b (Buffer side.Receive) rbuf
taken_beside b sbuf rbuf facts types sent taken =
    let sound : ℕ → Bool = λ h. is_some (types h) in
    second_of_two 1 (part_told facts types b (Buffer side.Send) sbuf) (part_told facts types b (Buffer side.Receive) rbuf)
    (told_number 1 false (is_usable facts sound b (part_in b (Buffer side.Send))) (part_at facts b side.Send sbuf) (comm_of facts b) (datatype_of types b side.Send) (λ c t. ap (λ (n : ℕ). nat_eq n 1) sent))
    (told_number 1 true (is_usable facts sound b (part_in b (Buffer side.Receive))) (part_at facts b side.Receive rbuf) (comm_of facts b) (datatype_of types b side.Receive) (λ c t. ap (λ (n : ℕ). nat_eq n 1) taken))

by_kind : (k : Kind) (s : Side) (v : Values (fields.inputs k)) (o : Outcome (fields.output k)) → Shape (body_of k v o) s (terms_of (body_of k v o) s)
unfolding parts_of
by_kind kind.Send side.Send v o = record {
  peer_is = refl;
  tag_is = refl;
  type_is = refl;
  part_is = refl;
  address = v.0;
  told_is = one (body_of kind.Send v o) side.Send v.0;
  blocks_are = λ facts comm tree. refl;
}
by_kind kind.Ssend side.Send v o = record {
  peer_is = refl;
  tag_is = refl;
  type_is = refl;
  part_is = refl;
  address = v.0;
  told_is = one (body_of kind.Ssend v o) side.Send v.0;
  blocks_are = λ facts comm tree. refl;
}
by_kind kind.Bsend side.Send v o = record {
  peer_is = refl;
  tag_is = refl;
  type_is = refl;
  part_is = refl;
  address = v.0;
  told_is = one (body_of kind.Bsend v o) side.Send v.0;
  blocks_are = λ facts comm tree. refl;
}
by_kind kind.Rsend side.Send v o = record {
  peer_is = refl;
  tag_is = refl;
  type_is = refl;
  part_is = refl;
  address = v.0;
  told_is = one (body_of kind.Rsend v o) side.Send v.0;
  blocks_are = λ facts comm tree. refl;
}
by_kind kind.Isend side.Send v o = record {
  peer_is = refl;
  tag_is = refl;
  type_is = refl;
  part_is = refl;
  address = v.0;
  told_is = one (body_of kind.Isend v o) side.Send v.0;
  blocks_are = λ facts comm tree. refl;
}
by_kind kind.Issend side.Send v o = record {
  peer_is = refl;
  tag_is = refl;
  type_is = refl;
  part_is = refl;
  address = v.0;
  told_is = one (body_of kind.Issend v o) side.Send v.0;
  blocks_are = λ facts comm tree. refl;
}
by_kind kind.Ibsend side.Send v o = record {
  peer_is = refl;
  tag_is = refl;
  type_is = refl;
  part_is = refl;
  address = v.0;
  told_is = one (body_of kind.Ibsend v o) side.Send v.0;
  blocks_are = λ facts comm tree. refl;
}
by_kind kind.Irsend side.Send v o = record {
  peer_is = refl;
  tag_is = refl;
  type_is = refl;
  part_is = refl;
  address = v.0;
  told_is = one (body_of kind.Irsend v o) side.Send v.0;
  blocks_are = λ facts comm tree. refl;
}
by_kind kind.SendInit side.Send v o = record {
  peer_is = refl;
  tag_is = refl;
  type_is = refl;
  part_is = refl;
  address = v.0;
  told_is = one (body_of kind.SendInit v o) side.Send v.0;
  blocks_are = λ facts comm tree. refl;
}
by_kind kind.SsendInit side.Send v o = record {
  peer_is = refl;
  tag_is = refl;
  type_is = refl;
  part_is = refl;
  address = v.0;
  told_is = one (body_of kind.SsendInit v o) side.Send v.0;
  blocks_are = λ facts comm tree. refl;
}
by_kind kind.Recv side.Receive v o = record {
  peer_is = refl;
  tag_is = refl;
  type_is = refl;
  part_is = refl;
  address = v.0;
  told_is = one (body_of kind.Recv v o) side.Receive v.0;
  blocks_are = λ facts comm tree. refl;
}
by_kind kind.Irecv side.Receive v o = record {
  peer_is = refl;
  tag_is = refl;
  type_is = refl;
  part_is = refl;
  address = v.0;
  told_is = one (body_of kind.Irecv v o) side.Receive v.0;
  blocks_are = λ facts comm tree. refl;
}
by_kind kind.RecvInit side.Receive v o = record {
  peer_is = refl;
  tag_is = refl;
  type_is = refl;
  part_is = refl;
  address = v.0;
  told_is = one (body_of kind.RecvInit v o) side.Receive v.0;
  blocks_are = λ facts comm tree. refl;
}
by_kind kind.Sendrecv side.Send v o = record {
  peer_is = refl;
  tag_is = refl;
  type_is = refl;
  part_is = refl;
  address = v.0;
  told_is = λ facts types. sent_beside (body_of kind.Sendrecv v o) v.0 v.1.1.1.1.1.0 facts types refl refl;
  blocks_are = λ facts comm tree. refl;
}
by_kind kind.Sendrecv side.Receive v o = record {
  peer_is = refl;
  tag_is = refl;
  type_is = refl;
  part_is = refl;
  address = v.1.1.1.1.1.0;
  told_is = λ facts types. taken_beside (body_of kind.Sendrecv v o) v.0 v.1.1.1.1.1.0 facts types refl refl;
  blocks_are = λ facts comm tree. refl;
}
by_kind kind.Probe side.Receive v o = inr (λ facts types. refl)
by_kind kind.Iprobe side.Receive v o = inr (λ facts types. refl)
by_kind k s v o = no_peer (body_of k v o) s refl

pub shape : (b : Body) (s : Side) → Shape b s (terms_of b s)
shape b s = let is = again b in subst (λ (x : Body). Shape x s (terms_of x s)) is.2 (by_kind (kind_of b) s is.0 is.1)

-- ---- calls without messages

-- a call outside of these two families asks for no message
abbrev pub IsQuiet : Body → Type 0
IsQuiet (Point p) = Unit {0}
IsQuiet (Persist p) = Unit {0}
IsQuiet b = (terms_of b side.Send ≡ None) × ((terms_of b side.Receive ≡ None) × (waits_for_probe (kind_of b) ≡ false))

quiet_kind : (k : Kind) (v : Values (fields.inputs k)) (o : Outcome (fields.output k)) → IsQuiet (body_of k v o)
quiet_kind kind.Send v o = tt
quiet_kind kind.Ssend v o = tt
quiet_kind kind.Bsend v o = tt
quiet_kind kind.Rsend v o = tt
quiet_kind kind.Isend v o = tt
quiet_kind kind.Issend v o = tt
quiet_kind kind.Ibsend v o = tt
quiet_kind kind.Irsend v o = tt
quiet_kind kind.SendInit v o = tt
quiet_kind kind.SsendInit v o = tt
quiet_kind kind.Recv v o = tt
quiet_kind kind.Irecv v o = tt
quiet_kind kind.RecvInit v o = tt
quiet_kind kind.Sendrecv v o = tt
quiet_kind kind.Probe v o = tt
quiet_kind kind.Iprobe v o = tt
quiet_kind kind.Start v o = tt
quiet_kind kind.Startall v o = tt
quiet_kind _ v o = (refl, (refl, refl))

all_quiet : (b : Body) → IsQuiet b
all_quiet b = let is = again b in subst IsQuiet is.2 (quiet_kind (kind_of b) is.0 is.1)

pub record Asks (b : Body) : Type 0 where
  pub plain : is_persistent_kind b ≡ false
  pub nothing : (terms_of b side.Send ≡ None) × ((terms_of b side.Receive ≡ None) × (waits_for_probe (kind_of b) ≡ false))

pub quiet : (b : Body) → ((p : Pointed) → b ≡ Point p → ⊥) → ((p : Persistent) → b ≡ Persist p → ⊥) → Asks b
quiet (Point x) no_point no_persist = absurd (no_point x refl)
quiet (Persist x) no_point no_persist = absurd (no_persist x refl)
quiet (Frame x) no_point no_persist = record { plain = refl; nothing = all_quiet (Frame x) }
quiet (Finish x) no_point no_persist = record { plain = refl; nothing = all_quiet (Finish x) }
quiet (Derive x) no_point no_persist = record { plain = refl; nothing = all_quiet (Derive x) }
quiet (Object x) no_point no_persist = record { plain = refl; nothing = all_quiet (Object x) }
quiet (Collective x) no_point no_persist = record { plain = refl; nothing = all_quiet (Collective x) }
quiet (Started x) no_point no_persist = record { plain = refl; nothing = all_quiet (Started x) }

pub starts_none : (p : Persistent) → ((request : ℕ) → p ≡ Start request → ⊥) → ((requests : List ℕ) → p ≡ Startall requests → ⊥) → started_of (Persist p) ≡ []
starts_none (Start request) no_start no_all = absurd (no_start request refl)
starts_none (Startall requests) no_start no_all = absurd (no_all requests refl)
starts_none (SendInit a b c d e f g) no_start no_all = refl
starts_none (SsendInit a b c d e f g) no_start no_all = refl
starts_none (RecvInit a b c d e f g) no_start no_all = refl

pub transfer : (b : Body) (s : Side) (t : Terms) → terms_of b s ≡ Some t → IsTransfer b s t
transfer b s t e = subst (Shape b s) e (shape b s)
