-- What the tables tell is what the calls before made known.
use Rattle.std.proofs.Common.{◌≡◌, ℕ, Bool, true, false, cond, ◌&&◌, nat_eq, List, length, Option, Some, None, refl, sym, ap, subst, ◌∙◌}
use mathlib.Core.Path.{fun_ext}
use Rattle.std.specs.Prelude.{position, Result, Err, IfErr}
use Rattle.must_local.specs.declared.fault.WalkFault.{WalkFault}
use Rattle.must_local.specs.declared.fault.WalkFault.TheVariants as walk_fault
use Rattle.std.specs.Option.{option_map}
use Rattle.must_call.specs.declared.class.Class.{Class}
use Rattle.must_call.specs.declared.class.Class.TheVariants.{Comm, Group, Datatype, Operation, Request}
use Rattle.must_call.specs.declared.life.Life.{Life}
use Rattle.must_call.specs.declared.call.Call.{Call}
use Rattle.must_group.specs.Names.{Name}
use Rattle.must_call.specs.declared.body.Body.{Body}
use Rattle.must_call.specs.Handles.{ClassedHandle}
use Rattle.must_rules.specs.Making.{made_by}
use Rattle.must_format.specs.declared.cause.Limit.{Limit}
use Rattle.must_rules.specs.Limits.{is_comm, parent_name, has_full_path, is_too_deep, path_limit, most_weight, made_limit, or_limit, type_limit_at, handle_limit_at}
use Rattle.must_rules.specs.Types.{clear_type, type_of, types_weight}
use Rattle.must_rules.specs.Rank.{Rank}
use Rattle.must_rules.specs.Lives.{life, committed}
use Rattle.must_rules.specs.Starts.{start_of}
use Rattle.must_rules.specs.Facts.{Facts, members_of, position_of}
use Rattle.must_rules.specs.Clear.{is_clear, argument_breaches}
use Rattle.must_rules.specs.Communicators.{Derived, derived_of, is_there, there, collectives, name_of, usable_name, placed, members_named}
use Rattle.must_rules.specs.Known.{group_of, facts_of, clear_behind}
use Rattle.must_rules.specs.Local.{breaches_at}
use Rattle.must_handle.specs.Slots.{state_in, committed_in, start_in}
use Rattle.must_local.specs.declared.handles.Handles.{Handles}
use Rattle.must_local.specs.Counted.{Counted, name_counted, counted}
use Rattle.must_local.specs.Objects.{comm_in, group_in, counted_of}
use Rattle.must_local.specs.HandlesKnown.{usable_comm, facts_in, full_path, parent_in, made_too_deep, IsLimitAt, HandlesStand}

named_there : (b : Bool) (c : ℕ) (o : Option Name) → option_map name_counted (cond b (option_map (counted c) o) None) ≡ cond b o None
named_there true c None = refl
named_there true c (Some n) = refl
named_there false c o = refl

pub usable_is : (r : Rank) (h : Handles) (calls : List Call) (comm : ℕ) → HandlesStand r h calls → usable_comm h comm ≡ there (life calls Comm comm) (counted_of r calls comm)
usable_is r h calls comm s = ap (λ (l : Life). there l (comm_in h.objects comm)) (s.lives.lives Comm comm) ∙ s.objects.comms comm

pub named_is : (r : Rank) (h : Handles) (calls : List Call) (comm : ℕ) → HandlesStand r h calls → option_map name_counted (usable_comm h comm) ≡ usable_name r calls comm
named_is r h calls comm s = ap (option_map name_counted) (usable_is r h calls comm s) ∙ named_there (is_there (life calls Comm comm)) (collectives calls comm) (name_of r calls comm)

pub facts_are : (r : Rank) (h : Handles) (calls : List Call) → HandlesStand r h calls → facts_in h ≡ facts_of r calls
facts_are r h calls s =
    let lives : state_in h.lives ≡ life calls = fun_ext (λ (c : Class). fun_ext (λ (n : ℕ). s.lives.lives c n)) in
    let commits : committed_in h.lives ≡ committed calls = fun_ext (λ (n : ℕ). s.lives.commits n) in
    let comms : (λ (comm : ℕ). members_named h.rank (option_map name_counted (usable_comm h comm))) ≡ (λ (comm : ℕ). members_named r.rank (usable_name r calls comm)) = fun_ext (λ (comm : ℕ).
    ap (λ (n : ℕ). members_named n (option_map name_counted (usable_comm h comm))) s.rank_is ∙ ap (members_named r.rank) (named_is r h calls comm s)) in
    let groups : (λ (g : ℕ). there (state_in h.lives Group g) (group_in h.objects g)) ≡ (λ (g : ℕ). there (life calls Group g) (group_of r calls g)) = fun_ext (λ (g : ℕ).
    ap (λ (l : Life). there l (group_in h.objects g)) (s.lives.lives Group g) ∙ s.objects.groups g) in
    λ i. record { tag_ub = s.tag_is i; life = lives i; committed = commits i; comm = comms i; group = groups i }

pub clear_is : (r : Rank) (h : Handles) (calls : List Call) (call : Call) → HandlesStand r h calls → is_clear (facts_in h) call.body ≡ clear_behind r calls call
unfolding clear_behind
clear_is r h calls call s = ap (λ (f : Facts). is_clear f call.body) (facts_are r h calls s)

pub breaches_are : (r : Rank) (h : Handles) (calls : List Call) (call : Call) (k : ℕ) → HandlesStand r h calls → k ≡ length calls
    → argument_breaches (facts_in h) (λ n. start_in h.lives n) k call.body ≡ breaches_at r calls call
unfolding breaches_at
breaches_are r h calls call k s e =
    let starts : (λ (n : ℕ). start_in h.lives n) ≡ start_of (clear_behind r) calls = fun_ext (λ (n : ℕ). s.lives.starts n) in
    λ i. argument_breaches (facts_are r h calls s i) (starts i) (e i) call.body

-- ---- what a view is asked

pub members_none : (h : Handles) (number : ℕ) (comm : Counted) → usable_comm h number ≡ Some comm → position (λ member. nat_eq member h.rank) comm.name.members ≡ None → None ≡ option_map members_of ((facts_in h).comm number)
members_none h number comm e none =
    sym (ap (λ (o : Option Counted). option_map members_of (members_named h.rank (option_map name_counted o))) e ∙ ap (λ (o : Option ℕ). option_map members_of (option_map (placed comm.name) o)) none)

pub members_some : (h : Handles) (number : ℕ) (comm : Counted) (p : ℕ) → usable_comm h number ≡ Some comm → position (λ member. nat_eq member h.rank) comm.name.members ≡ Some p → Some comm.name.members ≡ option_map members_of ((facts_in h).comm number)
members_some h number comm p e some =
    sym (ap (λ (o : Option Counted). option_map members_of (members_named h.rank (option_map name_counted o))) e ∙ ap (λ (o : Option ℕ). option_map members_of (option_map (placed comm.name) o)) some)

position_placed : (name : Name) (o : Option ℕ) → option_map position_of (option_map (placed name) o) ≡ o
position_placed name None = refl
position_placed name (Some p) = refl

pub position_told : (h : Handles) (number : ℕ) (comm : Counted) → usable_comm h number ≡ Some comm → position (λ member. nat_eq member h.rank) comm.name.members ≡ option_map position_of ((facts_in h).comm number)
position_told h number comm e =
    sym (ap (λ (o : Option Counted). option_map position_of (members_named h.rank (option_map name_counted o))) e ∙ position_placed comm.name (position (λ member. nat_eq member h.rank) comm.name.members))

-- ---- limits

full_named : (o : Option Counted) → has_full_path (option_map name_counted o) ≡ full_path o
full_named None = refl
full_named (Some comm) = refl

parent_is : (r : Rank) (h : Handles) (calls : List Call) (d : Option Derived) → HandlesStand r h calls → full_path (parent_in h d) ≡ has_full_path (parent_name (usable_name r calls) d)
parent_is r h calls None s = refl
parent_is r h calls (Some d) s = sym (full_named (usable_comm h d.parent)) ∙ ap has_full_path (named_is r h calls d.parent s)

deep_by : (r : Rank) (h : Handles) (calls : List Call) (b : Body) (o : Option ClassedHandle) → HandlesStand r h calls → made_too_deep h o b ≡ (is_comm o && has_full_path (parent_name (usable_name r calls) (derived_of b)))
deep_by r h calls b None s = refl
deep_by r h calls b (Some (Comm, n)) s = parent_is r h calls (derived_of b) s
deep_by r h calls b (Some (Group, n)) s = refl
deep_by r h calls b (Some (Datatype, n)) s = refl
deep_by r h calls b (Some (Operation, n)) s = refl
deep_by r h calls b (Some (Request, n)) s = refl

-- the path that a call reaches by the tables is the one that it reaches
pub deep_is : (r : Rank) (h : Handles) (calls : List Call) (call : Call) → HandlesStand r h calls → made_too_deep h (made_by call) call.body ≡ is_too_deep r calls call
unfolding is_too_deep
deep_is r h calls call s = deep_by r h calls call.body (made_by call) s

-- no call reaches the limits of a path and of a type
pub deep_alone : (r : Rank) (calls : List Call) (call : Call) → is_too_deep r calls call ≡ true → type_limit_at (most_weight r.size) (clear_behind r) calls call ≡ None
unfolding is_too_deep type_limit_at
deep_alone r calls call e = at (made_by call) e
  where
    at : (o : Option ClassedHandle) → (is_comm o && has_full_path (parent_name (usable_name r calls) (derived_of call.body))) ≡ true
        → made_limit o (most_weight r.size) (types_weight (clear_behind r) calls) (clear_type (clear_behind r calls call) (type_of (clear_behind r) calls) call.body) ≡ None
    at None f = refl
    at (Some (Comm, n)) f = refl
    at (Some (Group, n)) f = refl
    at (Some (Datatype, n)) f = let bad : false ≡ true = f in absurd cc
    at (Some (Operation, n)) f = refl
    at (Some (Request, n)) f = refl

no_path : (b : Bool) (l : Limit) → path_limit b ≡ Some l → b ≡ true
no_path true l e = refl
no_path false l e = let bad : None ≡ Some l = e in absurd cc

-- what a path is refused by is the call's limit
pub path_over : (r : Rank) (calls : List Call) (call : Call) (k : ℕ) (f : WalkFault) → IsLimitAt k (path_limit (is_too_deep r calls call)) f → IsLimitAt k (handle_limit_at r calls call) f
path_over r calls call k (walk_fault.TooWide at l) h =
    (h.0, ap (λ (o : Option Limit). or_limit o (path_limit (is_too_deep r calls call))) (deep_alone r calls call (no_path (is_too_deep r calls call) l h.1)) ∙ h.1)
path_over r calls call k walk_fault.NoMemory h = tt

-- what a type is refused by is the call's limit
pub type_over : (r : Rank) (calls : List Call) (call : Call) (k : ℕ) (f : WalkFault) → IsLimitAt k (type_limit_at (most_weight r.size) (clear_behind r) calls call) f → IsLimitAt k (handle_limit_at r calls call) f
type_over r calls call k (walk_fault.TooWide at l) h = (h.0, ap (λ (o : Option Limit). or_limit o (path_limit (is_too_deep r calls call))) h.1)
type_over r calls call k walk_fault.NoMemory h = tt

-- what holds of a fault holds of the result that hands it on
pub handed_on : {A : Type 0} (result : Result A WalkFault) (given fault : WalkFault) (P : WalkFault → Type 0) → result ≡ Err given → given ≡ fault → P fault → IfErr result P
handed_on {A} result given fault P is same holds = subst (λ (x : Result A WalkFault). IfErr x P) (sym is) (subst P (sym same) holds)
