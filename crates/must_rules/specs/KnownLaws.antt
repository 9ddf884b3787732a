-- How what a rank knows changes by one call more.
use Rattle.std.proofs.Common.{◌≡◌, ℕ, suc, Bool, true, false, cond, ◌&&◌, List, [], ◌∷◌, ◌++◌, length, refl, sym, ap, ◌∙◌}
use Rattle.must_call.specs.declared.life.Life.{Life}
use Rattle.must_call.specs.declared.life.Life.TheVariants.{Never}
use Rattle.must_rules.specs.LifeLaws.{was_never, life_more}
use Rattle.std.specs.Prelude.{reverse}
use Rattle.std.proofs.lemmas.List.{reverse-append, reverse-reverse}
use Rattle.must_call.specs.declared.class.Class.TheVariants.{Comm, Group, Datatype}
use Rattle.must_call.specs.declared.call.Call.{Call}
use Rattle.must_rules.specs.Rank.{Rank}
use Rattle.must_rules.specs.Making.{makes}
use Rattle.must_rules.specs.Lives.{life, ends, is_kept}
use Rattle.must_rules.specs.Starts.{Clearness}
use Rattle.must_rules.specs.Communicators.{is_there, there, is_collective_on, collectives_by, collectives, derived_of, derived_name, name_by, name_of, usable_name}
use Rattle.must_rules.specs.Known.{sound_group, facts_with, group_by, group_of, facts_of}
use Rattle.must_type.specs.Table.{tree_at, predefined}
use Rattle.must_rules.specs.Types.{clear_type, type_by, type_of}

-- what is told of calls of which the last stands first, one call more
latest : {X : Type 0} (f : List Call → X) (calls : List Call) (call : Call) → f (reverse (calls ++ call ∷ [])) ≡ f (call ∷ reverse calls)
latest f calls call = ap f (reverse-append calls (call ∷ []))

pub collectives_more : (calls : List Call) (call : Call) (comm : ℕ)
    → collectives (calls ++ call ∷ []) comm ≡ cond (is_collective_on comm call && is_there (life calls Comm comm)) (suc (collectives calls comm)) (collectives calls comm)
unfolding collectives
collectives_more calls call comm =
    latest (λ cs. collectives_by cs comm) calls call
    ∙ ap (λ (cs : List Call). cond (is_collective_on comm call && is_there (life cs Comm comm)) (suc (collectives_by (reverse calls) comm)) (collectives_by (reverse calls) comm)) (reverse-reverse calls)

pub name_more : (r : Rank) (calls : List Call) (call : Call) (comm : ℕ)
    → name_of r (calls ++ call ∷ []) comm ≡ cond (makes Comm comm call) (derived_name (usable_name r calls) (collectives calls) (derived_of call.body)) (name_of r calls comm)
unfolding name_of collectives
name_more r calls call comm =
    latest (λ cs. name_by r cs comm) calls call
    ∙ ap (λ (cs : List Call). cond (makes Comm comm call) (derived_name (λ parent. there (life cs Comm parent) (name_by r (reverse calls) parent)) (collectives_by (reverse calls)) (derived_of call.body)) (name_by r (reverse calls) comm)) (reverse-reverse calls)

pub group_more : (r : Rank) (calls : List Call) (call : Call) (group : ℕ)
    → group_of r (calls ++ call ∷ []) group ≡ cond (makes Group group call) (sound_group (facts_of r calls) call.body) (group_of r calls group)
unfolding group_of
group_more r calls call group =
    latest (λ cs. group_by r cs group) calls call
    ∙ ap (λ (cs : List Call). cond (makes Group group call) (sound_group (facts_with r cs (group_by r (reverse calls))) call.body) (group_by r (reverse calls) group)) (reverse-reverse calls)

pub type_more : (is_clear : Clearness) (calls : List Call) (call : Call) (handle : ℕ)
    → type_of is_clear (calls ++ call ∷ []) handle ≡ cond (makes Datatype handle call) (clear_type (is_clear calls call) (type_of is_clear calls) call.body) (type_of is_clear calls handle)
unfolding type_of
type_more is_clear calls call handle =
    latest (λ cs. type_by is_clear cs handle) calls call
    ∙ ap (λ (cs : List Call). cond (makes Datatype handle call) (clear_type (is_clear cs call) (type_by is_clear (reverse calls)) call.body) (type_by is_clear (reverse calls) handle)) (reverse-reverse calls)

pub type_first : (is_clear : Clearness) (handle : ℕ) → type_of is_clear [] handle ≡ tree_at predefined handle
unfolding type_of
type_first is_clear handle = refl

counts_none : (on : Bool) (l : Life) (n : ℕ) → l ≡ Never → n ≡ 0 → cond (on && is_there l) (suc n) n ≡ 0
counts_none true l n e z = ap (λ (x : Life). cond (is_there x) (suc n) n) e ∙ z
counts_none false l n e z = z

never_by : (before : List Call) (comm : ℕ) → life (reverse before) Comm comm ≡ Never → collectives_by before comm ≡ 0
never_by [] comm e = refl
never_by (last ∷ before) comm e =
    let earlier = was_never (length (reverse before)) (makes Comm comm last) (ends (is_kept (reverse before) Comm comm) Comm comm last) (life (reverse before) Comm comm) (sym (life_more (reverse before) last Comm comm) ∙ ap (λ (cs : List Call). life cs Comm comm) (sym (reverse-append (last ∷ []) before)) ∙ e) in
    counts_none (is_collective_on comm last) (life (reverse before) Comm comm) (collectives_by before comm) earlier (never_by before comm earlier)

-- a communicator that was never made was never called on
pub collectives_never : (calls : List Call) (comm : ℕ) → life calls Comm comm ≡ Never → collectives calls comm ≡ 0
unfolding collectives
collectives_never calls comm e = never_by (reverse calls) comm (ap (λ (cs : List Call). life cs Comm comm) (reverse-reverse calls) ∙ e)
