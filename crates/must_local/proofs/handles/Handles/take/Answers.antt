use Rattle.std.proofs.Common.{◌≡◌, ℕ, None, List, [], ◌∷◌, ◌++◌, length, sym, ap, subst, ◌∙◌, ◌+◌}
use Rattle.std.proofs.lemmas.Result.{err_from_is_err_and}
use Rattle.must_call.specs.declared.call.Call.{Call}
use Rattle.must_handle.specs.declared.slot.Slot.{Slot}
use Rattle.must_handle.specs.Slots.{Stands}
use Rattle.must_rules.specs.Rank.{Rank}
use Rattle.must_rules.specs.Known.{clear_behind}
use Rattle.must_rules.specs.Limits.{path_limit, most_weight, type_limit_at, or_limit, handle_limit_at}
use Rattle.must_derived.specs.declared.datatypes.Datatypes.{Datatypes}
use Rattle.must_derived.specs.Numbers.{IsNext}
use Rattle.must_derived.specs.Standing as derived
use Rattle.must_local.specs.declared.known.Known.{Known}
use Rattle.must_local.specs.Objects.{Remembers}
use Rattle.must_local.specs.HandlesKnown.{IsLimitAt, HandlesStand}
use Rattle.must_local.proofs.Facing.{clear_is, deep_is, path_over, type_over, handed_on}
use Rattle.must_local.proofs.Remembering.{remembers_more}
use Rattle.must_local.proofs.handles.Handles.take.Goals as goal

pub returns-clause-stands : goal.returns-clause-stands
returns-clause-stands c = λ r calls len s.
    let call = c.args.call.now in
    let takes = c.in_ok-take_in.ensures.takes in
    let clear = c.requires.clear ∙ clear_is r c.args.self.now calls call s in
    let same : c.take_in.new.self.types ≡ c.args.self.now.types = c.in_ok-take_in.ensures.lives.1 in
    let count : length c.take_in.new.self.types.numbers ≡ length c.args.self.now.lives = ap (λ (t : Datatypes). length t.numbers) same ∙ s.types.size ∙ sym s.lives.count in
    let next : IsNext c.take_in.new.self.types.numbers call = λ class number made. c.requires.next class number made ∙ ap (λ n. 64 + n) (sym count) in
    let others = c.in_ok-take_type.ensures.others in
    record {
      rank_is = others.2 ∙ c.in_ok-take_in.ensures.told.0 ∙ s.rank_is;
      tag_is = others.3 ∙ c.in_ok-take_in.ensures.told.1 ∙ s.tag_is;
      lives = c.in_ok-apply.ensures.stands (clear_behind r) calls len (λ starts. sym clear)
          (subst (λ (slots : List Slot). Stands (clear_behind r) slots calls) (sym (others.0 ∙ c.in_ok-take_in.ensures.lives.0)) s.lives);
      types = c.in_ok-take_type.ensures.stands (clear_behind r) calls next clear (subst (λ (t : Datatypes). derived.Stands (clear_behind r) t calls) (sym same) s.types);
      weight_is = c.in_ok-take_type.ensures.limit ∙ ap (λ (t : Datatypes). t.table.weight_limit) same ∙ s.weight_is;
      objects = subst (λ (slots : List Known). Remembers r slots (calls ++ call ∷ [])) (sym others.1)
          (remembers_more r calls call c.args.self.now c.args.clear takes.mid c.take_in.new.self.objects s c.requires.next c.requires.clear takes.counts takes.grows);
    }

pub returns-clause-within : goal.returns-clause-within
returns-clause-within c = λ r calls s.
    let call = c.args.call.now in
    let clear = c.requires.clear ∙ clear_is r c.args.self.now calls call s in
    let same : c.take_in.new.self.types ≡ c.args.self.now.types = c.in_ok-take_in.ensures.lives.1 in
    let none = c.in_ok-take_type.ensures.within (clear_behind r) calls clear (subst (λ (t : Datatypes). derived.Stands (clear_behind r) t calls) (sym same) s.types) in
    let most : c.take_in.new.self.types.table.weight_limit ≡ most_weight r.size = ap (λ (t : Datatypes). t.table.weight_limit) same ∙ s.weight_is in
    let light = subst (λ (n : ℕ). type_limit_at n (clear_behind r) calls call ≡ None) most none in
    let shallow = sym (deep_is r c.args.self.now calls call s) ∙ c.in_ok-take_in.ensures.within in
    (λ i. or_limit (light i) (path_limit (shallow i)))

pub returns-in_err-take_in-clause-over : goal.returns-in_err-take_in-clause-over
returns-in_err-take_in-clause-over c =
    let p = err_from_is_err_and c.from_residual.result c.from_residual.ensures.1 in
    let f = c.in_err-take_in.field-0.0 in
    let call = c.args.call.now in
    handed_on c.from_residual.result p.0 f (λ fault. (r : Rank) (calls : List Call) → HandlesStand r c.args.self.now calls → IsLimitAt c.args.k (handle_limit_at r calls call) fault) p.1 p.2
    (λ r calls s. path_over r calls call c.args.k f (subst (λ b. IsLimitAt c.args.k (path_limit b) f) (deep_is r c.args.self.now calls call s) c.in_err-take_in.ensures.over))

pub returns-in_err-take_type-clause-over : goal.returns-in_err-take_type-clause-over
returns-in_err-take_type-clause-over c =
    let p = err_from_is_err_and c.from_residual-in_err-take_type.result c.from_residual-in_err-take_type.ensures.1 in
    let f = c.in_err-take_type.field-0.0 in
    let call = c.args.call.now in
    let same : c.take_in.new.self.types ≡ c.args.self.now.types = c.in_ok-take_in.ensures.lives.1 in
    handed_on c.from_residual-in_err-take_type.result p.0 f (λ fault. (r : Rank) (calls : List Call) → HandlesStand r c.args.self.now calls → IsLimitAt c.args.k (handle_limit_at r calls call) fault) p.1 p.2
    (λ r calls s. type_over r calls call c.args.k f (subst (λ (n : ℕ). IsLimitAt c.args.k (type_limit_at n (clear_behind r) calls call) f) (ap (λ (t : Datatypes). t.table.weight_limit) same ∙ s.weight_is) (c.in_err-take_type.ensures.over (clear_behind r) calls (c.requires.clear ∙ clear_is r c.args.self.now calls call s) (subst (λ (t : Datatypes). derived.Stands (clear_behind r) t calls) (sym same) s.types))))
