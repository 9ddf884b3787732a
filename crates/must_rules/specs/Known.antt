-- What a rank knows of its handles after some calls: its communicators and groups, and which calls were clear
-- (docs/RULES.md).
use Rattle.std.specs.Prelude.{ℕ, Bool, ◌&&◌, ◌==◌, if◌then◌else◌, List, [], ◌∷◌, Option, Some, None, option_map, reverse}
use Rattle.must_call.specs.declared.constants.TheConstants.{GROUP_EMPTY}
use Rattle.must_call.specs.declared.class.Class.TheVariants.{Group}
use Rattle.must_call.specs.declared.body.Body.{Body}
use Rattle.must_call.specs.declared.body.Body.TheVariants.{Object}
use Rattle.must_call.specs.declared.object.Object.TheVariants.{CommGroup, GroupIncl, GroupExcl, GroupUnion, GroupIntersection, GroupDifference}
use Rattle.must_call.specs.declared.call.Call.{Call}
use Rattle.must_group.specs.Groups as list
use Rattle.must_rules.specs.Rank.{Rank}
use Rattle.must_rules.specs.Making.{makes}
use Rattle.must_rules.specs.Lives.{life, committed}
use Rattle.must_rules.specs.Starts.{Clearness}
use Rattle.must_rules.specs.Facts.{Facts, members_of}
use Rattle.must_rules.specs.Clear.{is_clear}
use Rattle.must_rules.specs.Communicators.{there, usable_name, members_named}

-- ---- groups (MPI 3.1 section 6.3.2)

-- what two groups give together, where both are known
abbrev pub together : (List ℕ → List ℕ → List ℕ) → Option (List ℕ) → Option (List ℕ) → Option (List ℕ)
together f (Some first) (Some second) = Some (f first second)
together f _ _ = None

-- the members of the group that a call makes, where what it is made of is sound and may be used
abbrev pub group_made : Facts → Body → Option (List ℕ)
group_made facts (Object (CommGroup comm made)) = option_map members_of (facts.comm comm)
group_made facts (Object (GroupIncl group ranks made)) = option_map (λ members. list.incl members ranks) (facts.group group)
group_made facts (Object (GroupExcl group ranks made)) = option_map (λ members. list.excl members ranks) (facts.group group)
group_made facts (Object (GroupUnion first second made)) = together list.union (facts.group first) (facts.group second)
group_made facts (Object (GroupIntersection first second made)) = together list.intersection (facts.group first) (facts.group second)
group_made facts (Object (GroupDifference first second made)) = together list.difference (facts.group first) (facts.group second)
group_made facts _ = None

-- a call that isn't clear makes no sound group
abbrev pub sound_group : Facts → Body → Option (List ℕ)
sound_group facts b = if is_clear facts b then group_made facts b else None

-- what a rank knows of its handles after these calls, where these are the members of its sound groups
abbrev pub facts_with : Rank → List Call → (ℕ → Option (List ℕ)) → Facts
facts_with r calls groups = record {
  tag_ub = r.tag_ub;
  life = life calls;
  committed = committed calls;
  comm = λ comm. members_named r.rank (usable_name r calls comm);
  group = λ group. there (life calls Group group) (groups group);
}

-- the same of calls of which the last stands first
abbrev pub group_by : Rank → List Call → ℕ → Option (List ℕ)
group_by r [] group = if group == GROUP_EMPTY then Some [] else None
group_by r (last ∷ before) group = if makes Group group last then sound_group (facts_with r (reverse before) (group_by r before)) last.body else group_by r before group

-- the members of a sound group: the empty one, or one that a clear call made of a sound group or communicator
unfoldable pub group_of : Rank → List Call → ℕ → Option (List ℕ)
group_of r calls group = group_by r (reverse calls) group

-- what a rank knows of its handles after these calls
abbrev pub facts_of : Rank → List Call → Facts
facts_of r calls = facts_with r calls (group_of r calls)

-- ---- clear calls

-- a call is clear where it breaks none of the rules A1 to A7 and H1 to H4, by what is known behind the earlier calls
unfoldable pub clear_behind : Rank → Clearness
clear_behind r earlier call = is_clear (facts_of r earlier) call.body
