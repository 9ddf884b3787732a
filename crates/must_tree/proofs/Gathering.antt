-- A node beside the walk over a rank.
use Rattle.std.proofs.Common.{◌≡◌, ℕ, ◌<◌, List, [], ◌∷◌, ◌++◌, true, sym, subst, ◌∙◌, append_assoc}
use Rattle.std.specs.Prelude.{Bool}
use Rattle.std.proofs.lemmas.List.{append-nil}
use Rattle.must_call.specs.declared.call.Call.{Call}
use Rattle.must_entry.specs.declared.range.RankRange.{RankRange}
use Rattle.must_entry.specs.declared.batch.Batch.{Batch}
use Rattle.must_entry.specs.Lawful.{IsLawful}
use Rattle.must_node.specs.declared.node.Node.{Node}
use Rattle.must_node.specs.Nodes.{StandsFor}
use Rattle.must_rules.specs.Rank.{Rank}
use Rattle.must_local.specs.Walks.{RankTold, rank_by, WalkState, Walks, GivesAll, collectives}
use Rattle.must_tree.specs.Ranks.{all_ranks, Holds, Gathers, GivesRank}
use Rattle.must_tree.proofs.Members.{distinct_members}
use Rattle.must_tree.proofs.Lawful.{IsOneRank, walked_rank, given_rank, lawful_behind, lower_more}

-- what a node promises of a batch that it takes
abbrev Takes : Node → Node → Batch → Type 0
Takes old new batch = (range : RankRange) (root : Bool) (taken handed : List Batch) → StandsFor old range root taken handed → IsLawful range (taken ++ batch ∷ []) → StandsFor new range root (taken ++ batch ∷ []) handed

-- before the first call
pub gathers_first : (told : RankTold) (w : WalkState) (node : Node) → told.rank < told.size → ((version : ℕ) → Walks version w [] []) → w.rank ≡ told → Gathers told w [] node node
gathers_first told w node within walks is = record {
  within = within;
  given = [];
  walks = walks;
  takes = λ before h. subst (λ (bs : List Batch). StandsFor node (all_ranks told.size) true bs []) (sym (append-nil before)) h.stands;
  rank_is = is;
}

-- a batch more of a rank
taken : (size : ℕ) (r : Rank) (mid new : Node) (before given : List Batch) (batch : Batch) → Takes mid new batch → StandsFor mid (all_ranks size) true (before ++ given) [] → IsLawful (all_ranks size) (before ++ (given ++ batch ∷ []))
    → StandsFor new (all_ranks size) true (before ++ (given ++ batch ∷ [])) []
taken size r mid new before given batch takes stands lawful =
    let shape : (before ++ given) ++ batch ∷ [] ≡ before ++ (given ++ batch ∷ []) = append_assoc before given (batch ∷ []) in
    subst (λ (bs : List Batch). StandsFor new (all_ranks size) true bs []) shape (takes (all_ranks size) true (before ++ given) [] stands (subst (IsLawful (all_ranks size)) (sym shape) lawful))

-- a call more
pub gathers_more : (told : RankTold) (w v : WalkState) (calls : List Call) (call : Call) (batch : Batch) (old mid new : Node)
    → ((version : ℕ) (cs : List Call) (given : List Batch) → Walks version w cs given → Walks version v (cs ++ call ∷ []) (given ++ batch ∷ [])) → v.rank ≡ w.rank → Takes mid new batch → Gathers told w calls old mid → Gathers told v (calls ++ call ∷ []) old new
gathers_more told w v calls call batch old mid new step same takes g = record {
  within = g.within;
  given = g.given ++ batch ∷ [];
  walks = λ version. step version calls g.given (g.walks version);
  takes = λ before h.
      let r = rank_by 0 told in
      let one : IsOneRank r (g.given ++ batch ∷ []) = subst (λ (t : RankTold). IsOneRank (rank_by 0 t) (g.given ++ batch ∷ [])) (same ∙ g.rank_is) (walked_rank 0 v (calls ++ call ∷ []) (g.given ++ batch ∷ []) (step 0 calls g.given (g.walks 0))) in
      taken told.size r mid new before g.given batch takes (g.takes before h) (lawful_behind told.size r before (g.given ++ batch ∷ []) g.within h.lower one);
  rank_is = same ∙ g.rank_is;
}

-- the end
pub gathers_end : (told : RankTold) (version : ℕ) (w : WalkState) (calls : List Call) (batch : Batch) (old mid new : Node)
    → ((v : ℕ) (cs : List Call) (given : List Batch) → Walks v w cs given → GivesAll (rank_by v w.rank) cs (given ++ batch ∷ [])) → Takes mid new batch → Gathers told w calls old mid → GivesRank (rank_by version told) calls old new
gathers_end told version w calls batch old mid new finish takes g =
    let r = rank_by version told in
    let all = g.given ++ batch ∷ [] in
    let gives : GivesAll r calls all = subst (λ (t : RankTold). GivesAll (rank_by version t) calls all) g.rank_is (finish version calls g.given (g.walks version)) in
    let one : IsOneRank r all = given_rank r calls all (g.walks version).knows.numbered gives in
    record {
      given = all;
      gives = gives;
      distinct = distinct_members r calls (collectives all) (g.walks version).members gives.waves;
      takes = λ before h. record {
        lower = lower_more told.size r before all g.within h.lower one;
        stands = taken told.size r mid new before g.given batch takes (g.takes before h) (lawful_behind told.size r before all g.within h.lower one);
      };
    }
