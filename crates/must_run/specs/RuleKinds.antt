-- Which rules look at one rank, at messages, at waves, and at blocked calls: a row of one kind stands beside those of the others.
use Rattle.std.proofs.Common.{◌≡◌, ℕ, Bool, true, false, List, [], ◌∷◌, take, Option, Some, None, refl, sym, ap, ◌∙◌, inl, inr}
use Rattle.std.specs.Prelude.{slice_get, pos}
use Rattle.must_call.specs.declared.call.Call.{Call}
use Rattle.must_call.specs.declared.place.Place.{Place}
use Rattle.must_find.specs.declared.rule.Rule.{Rule}
use Rattle.must_find.specs.declared.rule.Rule.TheVariants.{M1, M2, M3, M4, C1, C2, C3, C4, C5, C7, C8, W1, W2}
use Rattle.must_find.specs.declared.finding.Finding.{Finding}
use Rattle.must_sig.specs.declared.fit.Fit.{Fit}
use Rattle.must_sig.specs.declared.fit.Fit.TheVariants.{Fits, Differs, TooLong}
use Rattle.must_p2p.specs.declared.side.Side.{Side}
use Rattle.must_p2p.specs.declared.side.Side.TheVariants.{Send, Receive, Probe}
use Rattle.must_p2p.specs.declared.item.MsgItem.{MsgItem}
use Rattle.must_p2p.specs.MessageRules.{fit_of, broken, lone}
use Rattle.must_p2p.specs.Matching.{IsMessageRow}
use Rattle.must_coll.specs.declared.item.WaveItem.{WaveItem}
use Rattle.must_coll.specs.Rows.{IsWaveRow}
use Rattle.must_coll.specs.OneRowRules.{is_of_waves, wave_rule}
use Rattle.must_wait.specs.Needs.{Rows}
use Rattle.must_wait.specs.CoreLaws.{in_core}
use Rattle.must_node.specs.Waits.{wait_rule, wait_finding, IsWaitOf, IsWaitRow}
use Rattle.must_rules.specs.Answer.{Answer}
use Rattle.must_rules.specs.Rank.{Rank}
use Rattle.must_rules.specs.Run.{Run, Mode, Recorded, size_of}
use Rattle.must_rules.specs.Local.{finding_here, finding_whole, either, local_finding}
use Rattle.must_rules.specs.RunRows.{rank_in, finding_in, finding_at, IsFinding}

-- what a rule looks at
pub data RuleKind : Type 0 where
  OfRank : RuleKind
  OfMessages : RuleKind
  OfWaves : RuleKind
  OfWaits : RuleKind

abbrev pub kind_of : Rule → RuleKind
kind_of M1 = OfMessages
kind_of M2 = OfMessages
kind_of M3 = OfMessages
kind_of M4 = OfMessages
kind_of C1 = OfWaves
kind_of C2 = OfWaves
kind_of C3 = OfWaves
kind_of C4 = OfWaves
kind_of C5 = OfWaves
kind_of C7 = OfWaves
kind_of C8 = OfWaves
kind_of W1 = OfWaits
kind_of W2 = OfWaits
kind_of _ = OfRank

-- ---- rules of one rank

no_answer : (a : Answer) {P : Type 0} → None ≡ Some a → P
no_answer a e = absurd cc

here_kind : (r : Rank) (earlier : List Call) (o : Option Call) (rule : Rule) (part : ℕ) (a : Answer) → finding_here r earlier o rule part ≡ Some a → kind_of rule ≡ OfRank
here_kind r earlier None rule part a e = no_answer a e
here_kind r earlier (Some call) M1 part a e = no_answer a e
here_kind r earlier (Some call) M2 part a e = no_answer a e
here_kind r earlier (Some call) M3 part a e = no_answer a e
here_kind r earlier (Some call) M4 part a e = no_answer a e
here_kind r earlier (Some call) C1 part a e = no_answer a e
here_kind r earlier (Some call) C2 part a e = no_answer a e
here_kind r earlier (Some call) C3 part a e = no_answer a e
here_kind r earlier (Some call) C4 part a e = no_answer a e
here_kind r earlier (Some call) C5 part a e = no_answer a e
here_kind r earlier (Some call) C7 part a e = no_answer a e
here_kind r earlier (Some call) C8 part a e = no_answer a e
here_kind r earlier (Some call) W1 part a e = no_answer a e
here_kind r earlier (Some call) W2 part a e = no_answer a e
here_kind r earlier (Some call) _ part a e = refl

whole_kind : (r : Rank) (calls : List Call) (k : ℕ) (rule : Rule) (part : ℕ) (a : Answer) → finding_whole r calls k rule part ≡ Some a → kind_of rule ≡ OfRank
whole_kind r calls k M1 part a e = no_answer a e
whole_kind r calls k M2 part a e = no_answer a e
whole_kind r calls k M3 part a e = no_answer a e
whole_kind r calls k M4 part a e = no_answer a e
whole_kind r calls k C1 part a e = no_answer a e
whole_kind r calls k C2 part a e = no_answer a e
whole_kind r calls k C3 part a e = no_answer a e
whole_kind r calls k C4 part a e = no_answer a e
whole_kind r calls k C5 part a e = no_answer a e
whole_kind r calls k C7 part a e = no_answer a e
whole_kind r calls k C8 part a e = no_answer a e
whole_kind r calls k W1 part a e = no_answer a e
whole_kind r calls k W2 part a e = no_answer a e
whole_kind r calls k _ part a e = refl

either_kind : (here whole : Option Answer) (rule : Rule) (a : Answer) → ((b : Answer) → here ≡ Some b → kind_of rule ≡ OfRank) → ((b : Answer) → whole ≡ Some b → kind_of rule ≡ OfRank) → either here whole ≡ Some a → kind_of rule ≡ OfRank
either_kind None whole rule a p q e = q a e
either_kind (Some b) whole rule a p q e = p b refl

in_kind : (size rank : ℕ) (o : Option Recorded) (call : ℕ) (rule : Rule) (part : ℕ) (a : Answer) → finding_in size rank o call rule part ≡ Some a → kind_of rule ≡ OfRank
in_kind size rank None call rule part a e = no_answer a e
in_kind size rank (Some recorded) call rule part a e =
    let r = rank_in size rank recorded in
    either_kind (finding_here r (take call recorded.calls) (slice_get recorded.calls call) rule part) (finding_whole r recorded.calls call rule part) rule a
    (here_kind r (take call recorded.calls) (slice_get recorded.calls call) rule part) (whole_kind r recorded.calls call rule part) e

pub finding_kind : (run : Run) (mode : Mode) (f : Finding) → IsFinding run mode f → kind_of f.rule ≡ OfRank
finding_kind run mode f is = in_kind (size_of run) f.rank (slice_get run.ranks f.rank) f.call f.rule f.part (f.see, f.value) is

-- ---- rules of messages

no_finding : (f : Finding) {P : Type 0} → None ≡ Some f → P
no_finding f e = absurd cc

same_finding : (f g : Finding) → Some f ≡ Some g → f ≡ g
same_finding f g e = cc

rule_from : (f g : Finding) → Some f ≡ Some g → f.rule ≡ g.rule
rule_from f g e = ap (λ (x : Finding). x.rule) (same_finding f g e)

broken_kind : (fit : Fit) (send receive : Place) (part : ℕ) (f : Finding) → broken fit send receive part ≡ Some f → kind_of f.rule ≡ OfMessages
broken_kind Fits send receive part f e = no_finding f e
broken_kind (Differs at) send receive part f e = ap kind_of (sym (rule_from (record { rank = receive.rank; call = receive.call; rule = M1; part = part; see = Some send; value = pos at }) f e))
broken_kind (TooLong at) send receive part f e = ap kind_of (sym (rule_from (record { rank = receive.rank; call = receive.call; rule = M2; part = part; see = Some send; value = pos at }) f e))

lone_kind : (side : Side) (place : Place) (part : ℕ) (f : Finding) → lone side place part ≡ Some f → kind_of f.rule ≡ OfMessages
lone_kind Send place part f e = ap kind_of (sym (rule_from (record { rank = place.rank; call = place.call; rule = M3; part = part; see = None; value = pos 0 }) f e))
lone_kind Receive place part f e = ap kind_of (sym (rule_from (record { rank = place.rank; call = place.call; rule = M4; part = part; see = None; value = pos 0 }) f e))
lone_kind Probe place part f e = no_finding f e

pub message_kind : (items : List MsgItem) (f : Finding) → IsMessageRow items f → kind_of f.rule ≡ OfMessages
message_kind items f (inl row) = broken_kind (fit_of row.send.sig row.receive.sig) row.send.place row.receive.place row.receive.part f row.gives
message_kind items f (inr row) = lone_kind row.item.side row.item.place row.item.part f row.gives

-- ---- rules of waves

untrue : {P : Type 0} → false ≡ true → P
untrue e = absurd (let no : true ≡ false = sym e in cc)

of_waves : (rule : Rule) → is_of_waves rule ≡ true → kind_of rule ≡ OfWaves
of_waves C1 h = refl
of_waves C2 h = refl
of_waves C3 h = refl
of_waves C4 h = refl
of_waves C5 h = refl
of_waves C7 h = refl
of_waves C8 h = refl
of_waves _ h = untrue h

pub wave_kind : (items : List WaveItem) (f : Finding) → IsWaveRow items f → kind_of f.rule ≡ OfWaves
wave_kind items f row = of_waves f.rule (wave_rule items f row)

-- ---- rules of blocked calls

core_kind : (b : Bool) → kind_of (wait_rule b) ≡ OfWaits
core_kind true = refl
core_kind false = refl

wait_of_kind : (rows : Rows) (blocked places : List Place) (f : Finding) → IsWaitOf rows blocked places f → kind_of f.rule ≡ OfWaits
wait_of_kind rows blocked [] f is = absurd is
wait_of_kind rows blocked (place ∷ places) f (inl e) = ap (λ (x : Finding). kind_of x.rule) (sym e) ∙ core_kind (in_core rows blocked place.rank)
wait_of_kind rows blocked (place ∷ places) f (inr is) = wait_of_kind rows blocked places f is

pub wait_kind : (rows : Rows) (f : Finding) → IsWaitRow rows f → kind_of f.rule ≡ OfWaits
wait_kind rows f row = wait_of_kind rows row.blocked row.blocked f row.row
