-- Worked calls of each kind, with what the rules A1 to A7 and H1 to H4 find in them: a breach of each rule that the kind can break at each
-- part, a call that breaks none at two positions, and one that breaks several. Another program, written from the texts of the rules alone,
-- worked out what is found.
use Rattle.std.proofs.Common.{◌≡◌, ℕ, ◌==◌, pos, negsuc, true, false, ◌||◌, [], ◌∷◌, Some, None, refl, nat_lt, cond}
use Rattle.must_call.specs.declared.life.Life.TheVariants.{Never, Live, Freed, Predefined}
use Rattle.must_call.specs.declared.body.Body.TheVariants.{Collective}
use Rattle.must_call.specs.declared.collective.Collective.TheVariants.{Barrier, Bcast, Gather, Gatherv, Scatter, Scatterv, Allgather, Allgatherv, Alltoall, Alltoallv, Reduce, Allreduce, ReduceScatter, ReduceScatterBlock, Scan, Exscan}
use Rattle.must_find.specs.declared.rule.Rule.TheVariants.{A1, A4, H1, H2, H4}
use Rattle.must_rules.specs.Facts.{Facts}
use Rattle.must_rules.specs.Breaches.{breach, breach_with}
use Rattle.must_rules.specs.Clear.{wrong_arguments}

-- Datatypes 64 (not committed) and 66 (committed) are live, as all other handles of these numbers; 65 was freed. Communicator 1 has three
-- members, of which this rank is at the given position, and 64 has two; group 64 has two, and 66 isn't sound.
abbrev known : ℕ → Facts
known p = record {
  tag_ub = pos 40000;
  life = λ class n. cond (n == 0) Never (cond (nat_lt n 64) Predefined (cond (n == 64) (Live 1) (cond (n == 65) (Freed 2 4) (cond (n == 66) (Live 3) Never))));
  committed = λ n. nat_lt n 64 || (n == 66);
  comm = λ n. cond (n == 1) (Some (record { members = 0 ∷ 1 ∷ 2 ∷ []; position = p })) (cond (n == 64) (Some (record { members = 2 ∷ 0 ∷ []; position = 1 })) None);
  group = λ n. cond (n == 64) (Some (2 ∷ 0 ∷ [])) (cond (n == 1) (Some []) None);
}

barrier_0 : wrong_arguments (known 0) (Collective (Barrier 1)) ≡ []
barrier_0 = refl

barrier_1 : wrong_arguments (known 0) (Collective (Barrier 0)) ≡ breach H1 0 (pos 0) ∷ []
barrier_1 = refl

barrier_2 : wrong_arguments (known 0) (Collective (Barrier 65)) ≡ breach_with H2 0 4 (pos 65) ∷ []
barrier_2 = refl

bcast_3 : wrong_arguments (known 0) (Collective (Bcast 4096 (pos 1) 7 (pos 0) 1)) ≡ []
bcast_3 = refl

bcast_4 : wrong_arguments (known 0) (Collective (Bcast 4096 (negsuc 0) 7 (pos 0) 1)) ≡ breach A1 0 (negsuc 0) ∷ []
bcast_4 = refl

bcast_5 : wrong_arguments (known 0) (Collective (Bcast 4096 (pos 1) 0 (pos 0) 1)) ≡ breach H1 0 (pos 0) ∷ []
bcast_5 = refl

bcast_6 : wrong_arguments (known 0) (Collective (Bcast 4096 (pos 1) 65 (pos 0) 1)) ≡ breach_with H2 0 4 (pos 65) ∷ []
bcast_6 = refl

bcast_7 : wrong_arguments (known 0) (Collective (Bcast 4096 (pos 1) 64 (pos 0) 1)) ≡ breach_with H4 0 1 (pos 64) ∷ []
bcast_7 = refl

bcast_8 : wrong_arguments (known 0) (Collective (Bcast 4096 (pos 1) 7 (pos 3) 1)) ≡ breach A4 0 (pos 3) ∷ []
bcast_8 = refl

bcast_9 : wrong_arguments (known 0) (Collective (Bcast 4096 (pos 1) 7 (pos 0) 0)) ≡ breach H1 1 (pos 0) ∷ []
bcast_9 = refl

bcast_10 : wrong_arguments (known 0) (Collective (Bcast 4096 (pos 1) 7 (pos 0) 65)) ≡ breach_with H2 1 4 (pos 65) ∷ []
bcast_10 = refl

bcast_11 : wrong_arguments (known 1) (Collective (Bcast 4096 (pos 1) 7 (pos 0) 1)) ≡ []
bcast_11 = refl

gather_12 : wrong_arguments (known 0) (Collective (Gather false 4096 (pos 1) 7 8192 (pos 1) 7 (pos 0) 1)) ≡ []
gather_12 = refl

gather_13 : wrong_arguments (known 0) (Collective (Gather false 4096 (negsuc 2) 7 8192 (pos 1) 7 (pos 0) 1)) ≡ breach A1 0 (negsuc 2) ∷ []
gather_13 = refl

gather_14 : wrong_arguments (known 0) (Collective (Gather false 4096 (pos 1) 65 8192 (pos 1) 7 (pos 0) 1)) ≡ breach_with H2 0 4 (pos 65) ∷ []
gather_14 = refl

gather_15 : wrong_arguments (known 0) (Collective (Gather false 4096 (pos 1) 64 8192 (pos 1) 7 (pos 0) 1)) ≡ breach_with H4 0 1 (pos 64) ∷ []
gather_15 = refl

gather_16 : wrong_arguments (known 0) (Collective (Gather false 4096 (pos 1) 0 8192 (pos 1) 7 (pos 0) 1)) ≡ breach H1 0 (pos 0) ∷ []
gather_16 = refl

gather_17 : wrong_arguments (known 0) (Collective (Gather false 4096 (pos 1) 7 8192 (negsuc 3) 7 (pos 0) 1)) ≡ breach A1 1 (negsuc 3) ∷ []
gather_17 = refl

gather_18 : wrong_arguments (known 0) (Collective (Gather false 4096 (pos 1) 7 8192 (pos 1) 65 (pos 0) 1)) ≡ breach_with H2 1 4 (pos 65) ∷ []
gather_18 = refl

gather_19 : wrong_arguments (known 0) (Collective (Gather false 4096 (pos 1) 7 8192 (pos 1) 64 (pos 0) 1)) ≡ breach_with H4 1 1 (pos 64) ∷ []
gather_19 = refl

gather_20 : wrong_arguments (known 0) (Collective (Gather false 4096 (pos 1) 7 8192 (pos 1) 70 (pos 0) 1)) ≡ breach H1 1 (pos 70) ∷ []
gather_20 = refl

gather_21 : wrong_arguments (known 0) (Collective (Gather false 4096 (pos 1) 7 8192 (pos 1) 7 (pos 3) 1)) ≡ breach A4 0 (pos 3) ∷ []
gather_21 = refl

gather_22 : wrong_arguments (known 0) (Collective (Gather false 4096 (pos 1) 7 8192 (pos 1) 7 (pos 0) 0)) ≡ breach H1 2 (pos 0) ∷ []
gather_22 = refl

gather_23 : wrong_arguments (known 0) (Collective (Gather false 4096 (pos 1) 7 8192 (pos 1) 7 (pos 0) 65)) ≡ breach_with H2 2 4 (pos 65) ∷ []
gather_23 = refl

gather_24 : wrong_arguments (known 1) (Collective (Gather false 4096 (pos 1) 7 8192 (pos 1) 7 (pos 0) 1)) ≡ []
gather_24 = refl

gather_25 : wrong_arguments (known 1) (Collective (Gather false 4096 (negsuc 2) 0 8192 (pos 1) 64 (pos 0) 1)) ≡ breach A1 0 (negsuc 2) ∷ breach H1 0 (pos 0) ∷ []
gather_25 = refl

gatherv_26 : wrong_arguments (known 0) (Collective (Gatherv false 4096 (pos 1) 7 8192 ((record { count = (pos 1); disp = (pos 0) }) ∷ (record { count = (pos 1); disp = (pos 1) }) ∷ (record { count = (pos 1); disp = (pos 2) }) ∷ []) 7 (pos 0) 1)) ≡ []
gatherv_26 = refl

gatherv_27 : wrong_arguments (known 0) (Collective (Gatherv false 4096 (negsuc 2) 7 8192 ((record { count = (pos 1); disp = (pos 0) }) ∷ (record { count = (pos 1); disp = (pos 1) }) ∷ (record { count = (pos 1); disp = (pos 2) }) ∷ []) 7 (pos 0) 1)) ≡ breach A1 0 (negsuc 2) ∷ []
gatherv_27 = refl

gatherv_28 : wrong_arguments (known 0) (Collective (Gatherv false 4096 (pos 1) 65 8192 ((record { count = (pos 1); disp = (pos 0) }) ∷ (record { count = (pos 1); disp = (pos 1) }) ∷ (record { count = (pos 1); disp = (pos 2) }) ∷ []) 7 (pos 0) 1)) ≡ breach_with H2 0 4 (pos 65) ∷ []
gatherv_28 = refl

gatherv_29 : wrong_arguments (known 0) (Collective (Gatherv false 4096 (pos 1) 64 8192 ((record { count = (pos 1); disp = (pos 0) }) ∷ (record { count = (pos 1); disp = (pos 1) }) ∷ (record { count = (pos 1); disp = (pos 2) }) ∷ []) 7 (pos 0) 1)) ≡ breach_with H4 0 1 (pos 64) ∷ []
gatherv_29 = refl

gatherv_30 : wrong_arguments (known 0) (Collective (Gatherv false 4096 (pos 1) 0 8192 ((record { count = (pos 1); disp = (pos 0) }) ∷ (record { count = (pos 1); disp = (pos 1) }) ∷ (record { count = (pos 1); disp = (pos 2) }) ∷ []) 7 (pos 0) 1)) ≡ breach H1 0 (pos 0) ∷ []
gatherv_30 = refl

gatherv_31 : wrong_arguments (known 0) (Collective (Gatherv false 4096 (pos 1) 7 8192 ((record { count = (pos 1); disp = (pos 0) }) ∷ (record { count = (negsuc 1); disp = (pos 1) }) ∷ (record { count = (negsuc 2); disp = (pos 0) }) ∷ []) 7 (pos 0) 1)) ≡ breach A1 1 (negsuc 1) ∷ []
gatherv_31 = refl

gatherv_32 : wrong_arguments (known 0) (Collective (Gatherv false 4096 (pos 1) 7 8192 ((record { count = (pos 1); disp = (pos 0) }) ∷ (record { count = (pos 1); disp = (pos 1) }) ∷ (record { count = (pos 1); disp = (pos 2) }) ∷ []) 65 (pos 0) 1)) ≡ breach_with H2 1 4 (pos 65) ∷ []
gatherv_32 = refl

gatherv_33 : wrong_arguments (known 0) (Collective (Gatherv false 4096 (pos 1) 7 8192 ((record { count = (pos 1); disp = (pos 0) }) ∷ (record { count = (pos 1); disp = (pos 1) }) ∷ (record { count = (pos 1); disp = (pos 2) }) ∷ []) 64 (pos 0) 1)) ≡ breach_with H4 1 1 (pos 64) ∷ []
gatherv_33 = refl

gatherv_34 : wrong_arguments (known 0) (Collective (Gatherv false 4096 (pos 1) 7 8192 ((record { count = (pos 1); disp = (pos 0) }) ∷ (record { count = (pos 1); disp = (pos 1) }) ∷ (record { count = (pos 1); disp = (pos 2) }) ∷ []) 70 (pos 0) 1)) ≡ breach H1 1 (pos 70) ∷ []
gatherv_34 = refl

gatherv_35 : wrong_arguments (known 0) (Collective (Gatherv false 4096 (pos 1) 7 8192 ((record { count = (pos 1); disp = (pos 0) }) ∷ (record { count = (pos 1); disp = (pos 1) }) ∷ (record { count = (pos 1); disp = (pos 2) }) ∷ []) 7 (pos 3) 1)) ≡ breach A4 0 (pos 3) ∷ []
gatherv_35 = refl

gatherv_36 : wrong_arguments (known 0) (Collective (Gatherv false 4096 (pos 1) 7 8192 ((record { count = (pos 1); disp = (pos 0) }) ∷ (record { count = (pos 1); disp = (pos 1) }) ∷ (record { count = (pos 1); disp = (pos 2) }) ∷ []) 7 (pos 0) 0)) ≡ breach H1 2 (pos 0) ∷ []
gatherv_36 = refl

gatherv_37 : wrong_arguments (known 0) (Collective (Gatherv false 4096 (pos 1) 7 8192 ((record { count = (pos 1); disp = (pos 0) }) ∷ (record { count = (pos 1); disp = (pos 1) }) ∷ (record { count = (pos 1); disp = (pos 2) }) ∷ []) 7 (pos 0) 65)) ≡ breach_with H2 2 4 (pos 65) ∷ []
gatherv_37 = refl

gatherv_38 : wrong_arguments (known 1) (Collective (Gatherv false 4096 (pos 1) 7 8192 ((record { count = (pos 1); disp = (pos 0) }) ∷ (record { count = (pos 1); disp = (pos 1) }) ∷ (record { count = (pos 1); disp = (pos 2) }) ∷ []) 7 (pos 0) 1)) ≡ []
gatherv_38 = refl

gatherv_39 : wrong_arguments (known 0) (Collective (Gatherv false 4096 (negsuc 2) 7 8192 ((record { count = (negsuc 0); disp = (pos 0) }) ∷ []) 64 (pos 0) 1)) ≡ breach A1 0 (negsuc 2) ∷ breach A1 1 (negsuc 0) ∷ breach_with H4 1 1 (pos 64) ∷ []
gatherv_39 = refl

scatter_40 : wrong_arguments (known 0) (Collective (Scatter false 4096 (pos 1) 7 8192 (pos 1) 7 (pos 0) 1)) ≡ []
scatter_40 = refl

scatter_41 : wrong_arguments (known 0) (Collective (Scatter false 4096 (negsuc 2) 7 8192 (pos 1) 7 (pos 0) 1)) ≡ breach A1 0 (negsuc 2) ∷ []
scatter_41 = refl

scatter_42 : wrong_arguments (known 0) (Collective (Scatter false 4096 (pos 1) 65 8192 (pos 1) 7 (pos 0) 1)) ≡ breach_with H2 0 4 (pos 65) ∷ []
scatter_42 = refl

scatter_43 : wrong_arguments (known 0) (Collective (Scatter false 4096 (pos 1) 64 8192 (pos 1) 7 (pos 0) 1)) ≡ breach_with H4 0 1 (pos 64) ∷ []
scatter_43 = refl

scatter_44 : wrong_arguments (known 0) (Collective (Scatter false 4096 (pos 1) 0 8192 (pos 1) 7 (pos 0) 1)) ≡ breach H1 0 (pos 0) ∷ []
scatter_44 = refl

scatter_45 : wrong_arguments (known 0) (Collective (Scatter false 4096 (pos 1) 7 8192 (negsuc 3) 7 (pos 0) 1)) ≡ breach A1 1 (negsuc 3) ∷ []
scatter_45 = refl

scatter_46 : wrong_arguments (known 0) (Collective (Scatter false 4096 (pos 1) 7 8192 (pos 1) 65 (pos 0) 1)) ≡ breach_with H2 1 4 (pos 65) ∷ []
scatter_46 = refl

scatter_47 : wrong_arguments (known 0) (Collective (Scatter false 4096 (pos 1) 7 8192 (pos 1) 64 (pos 0) 1)) ≡ breach_with H4 1 1 (pos 64) ∷ []
scatter_47 = refl

scatter_48 : wrong_arguments (known 0) (Collective (Scatter false 4096 (pos 1) 7 8192 (pos 1) 70 (pos 0) 1)) ≡ breach H1 1 (pos 70) ∷ []
scatter_48 = refl

scatter_49 : wrong_arguments (known 0) (Collective (Scatter false 4096 (pos 1) 7 8192 (pos 1) 7 (pos 3) 1)) ≡ breach A4 0 (pos 3) ∷ []
scatter_49 = refl

scatter_50 : wrong_arguments (known 0) (Collective (Scatter false 4096 (pos 1) 7 8192 (pos 1) 7 (pos 0) 0)) ≡ breach H1 2 (pos 0) ∷ []
scatter_50 = refl

scatter_51 : wrong_arguments (known 0) (Collective (Scatter false 4096 (pos 1) 7 8192 (pos 1) 7 (pos 0) 65)) ≡ breach_with H2 2 4 (pos 65) ∷ []
scatter_51 = refl

scatter_52 : wrong_arguments (known 1) (Collective (Scatter false 4096 (pos 1) 7 8192 (pos 1) 7 (pos 0) 1)) ≡ []
scatter_52 = refl

scatter_53 : wrong_arguments (known 0) (Collective (Scatter false 4096 (negsuc 2) 7 8192 (negsuc 3) 7 (pos 0) 1)) ≡ breach A1 0 (negsuc 2) ∷ breach A1 1 (negsuc 3) ∷ []
scatter_53 = refl

scatterv_54 : wrong_arguments (known 0) (Collective (Scatterv false 4096 ((record { count = (pos 1); disp = (pos 0) }) ∷ (record { count = (pos 1); disp = (pos 1) }) ∷ (record { count = (pos 1); disp = (pos 2) }) ∷ []) 7 8192 (pos 1) 7 (pos 0) 1)) ≡ []
scatterv_54 = refl

scatterv_55 : wrong_arguments (known 0) (Collective (Scatterv false 4096 ((record { count = (pos 1); disp = (pos 0) }) ∷ (record { count = (negsuc 1); disp = (pos 1) }) ∷ (record { count = (negsuc 2); disp = (pos 0) }) ∷ []) 7 8192 (pos 1) 7 (pos 0) 1)) ≡ breach A1 0 (negsuc 1) ∷ []
scatterv_55 = refl

scatterv_56 : wrong_arguments (known 0) (Collective (Scatterv false 4096 ((record { count = (pos 1); disp = (pos 0) }) ∷ (record { count = (pos 1); disp = (pos 1) }) ∷ (record { count = (pos 1); disp = (pos 2) }) ∷ []) 65 8192 (pos 1) 7 (pos 0) 1)) ≡ breach_with H2 0 4 (pos 65) ∷ []
scatterv_56 = refl

scatterv_57 : wrong_arguments (known 0) (Collective (Scatterv false 4096 ((record { count = (pos 1); disp = (pos 0) }) ∷ (record { count = (pos 1); disp = (pos 1) }) ∷ (record { count = (pos 1); disp = (pos 2) }) ∷ []) 64 8192 (pos 1) 7 (pos 0) 1)) ≡ breach_with H4 0 1 (pos 64) ∷ []
scatterv_57 = refl

scatterv_58 : wrong_arguments (known 0) (Collective (Scatterv false 4096 ((record { count = (pos 1); disp = (pos 0) }) ∷ (record { count = (pos 1); disp = (pos 1) }) ∷ (record { count = (pos 1); disp = (pos 2) }) ∷ []) 0 8192 (pos 1) 7 (pos 0) 1)) ≡ breach H1 0 (pos 0) ∷ []
scatterv_58 = refl

scatterv_59 : wrong_arguments (known 0) (Collective (Scatterv false 4096 ((record { count = (pos 1); disp = (pos 0) }) ∷ (record { count = (pos 1); disp = (pos 1) }) ∷ (record { count = (pos 1); disp = (pos 2) }) ∷ []) 7 8192 (negsuc 3) 7 (pos 0) 1)) ≡ breach A1 1 (negsuc 3) ∷ []
scatterv_59 = refl

scatterv_60 : wrong_arguments (known 0) (Collective (Scatterv false 4096 ((record { count = (pos 1); disp = (pos 0) }) ∷ (record { count = (pos 1); disp = (pos 1) }) ∷ (record { count = (pos 1); disp = (pos 2) }) ∷ []) 7 8192 (pos 1) 65 (pos 0) 1)) ≡ breach_with H2 1 4 (pos 65) ∷ []
scatterv_60 = refl

scatterv_61 : wrong_arguments (known 0) (Collective (Scatterv false 4096 ((record { count = (pos 1); disp = (pos 0) }) ∷ (record { count = (pos 1); disp = (pos 1) }) ∷ (record { count = (pos 1); disp = (pos 2) }) ∷ []) 7 8192 (pos 1) 64 (pos 0) 1)) ≡ breach_with H4 1 1 (pos 64) ∷ []
scatterv_61 = refl

scatterv_62 : wrong_arguments (known 0) (Collective (Scatterv false 4096 ((record { count = (pos 1); disp = (pos 0) }) ∷ (record { count = (pos 1); disp = (pos 1) }) ∷ (record { count = (pos 1); disp = (pos 2) }) ∷ []) 7 8192 (pos 1) 70 (pos 0) 1)) ≡ breach H1 1 (pos 70) ∷ []
scatterv_62 = refl

scatterv_63 : wrong_arguments (known 0) (Collective (Scatterv false 4096 ((record { count = (pos 1); disp = (pos 0) }) ∷ (record { count = (pos 1); disp = (pos 1) }) ∷ (record { count = (pos 1); disp = (pos 2) }) ∷ []) 7 8192 (pos 1) 7 (pos 3) 1)) ≡ breach A4 0 (pos 3) ∷ []
scatterv_63 = refl

scatterv_64 : wrong_arguments (known 0) (Collective (Scatterv false 4096 ((record { count = (pos 1); disp = (pos 0) }) ∷ (record { count = (pos 1); disp = (pos 1) }) ∷ (record { count = (pos 1); disp = (pos 2) }) ∷ []) 7 8192 (pos 1) 7 (pos 0) 0)) ≡ breach H1 2 (pos 0) ∷ []
scatterv_64 = refl

scatterv_65 : wrong_arguments (known 0) (Collective (Scatterv false 4096 ((record { count = (pos 1); disp = (pos 0) }) ∷ (record { count = (pos 1); disp = (pos 1) }) ∷ (record { count = (pos 1); disp = (pos 2) }) ∷ []) 7 8192 (pos 1) 7 (pos 0) 65)) ≡ breach_with H2 2 4 (pos 65) ∷ []
scatterv_65 = refl

scatterv_66 : wrong_arguments (known 1) (Collective (Scatterv false 4096 ((record { count = (pos 1); disp = (pos 0) }) ∷ (record { count = (pos 1); disp = (pos 1) }) ∷ (record { count = (pos 1); disp = (pos 2) }) ∷ []) 7 8192 (pos 1) 7 (pos 0) 1)) ≡ []
scatterv_66 = refl

scatterv_67 : wrong_arguments (known 0) (Collective (Scatterv false 4096 ((record { count = (pos 1); disp = (pos 0) }) ∷ (record { count = (pos 1); disp = (pos 1) }) ∷ (record { count = (pos 1); disp = (pos 2) }) ∷ []) 65 8192 (negsuc 3) 70 (pos 2) 1)) ≡ breach A1 1 (negsuc 3) ∷ breach H1 1 (pos 70) ∷ []
scatterv_67 = refl

allgather_68 : wrong_arguments (known 0) (Collective (Allgather false 4096 (pos 1) 7 8192 (pos 1) 7 1)) ≡ []
allgather_68 = refl

allgather_69 : wrong_arguments (known 0) (Collective (Allgather false 4096 (negsuc 2) 7 8192 (pos 1) 7 1)) ≡ breach A1 0 (negsuc 2) ∷ []
allgather_69 = refl

allgather_70 : wrong_arguments (known 0) (Collective (Allgather false 4096 (pos 1) 65 8192 (pos 1) 7 1)) ≡ breach_with H2 0 4 (pos 65) ∷ []
allgather_70 = refl

allgather_71 : wrong_arguments (known 0) (Collective (Allgather false 4096 (pos 1) 64 8192 (pos 1) 7 1)) ≡ breach_with H4 0 1 (pos 64) ∷ []
allgather_71 = refl

allgather_72 : wrong_arguments (known 0) (Collective (Allgather false 4096 (pos 1) 0 8192 (pos 1) 7 1)) ≡ breach H1 0 (pos 0) ∷ []
allgather_72 = refl

allgather_73 : wrong_arguments (known 0) (Collective (Allgather false 4096 (pos 1) 7 8192 (negsuc 3) 7 1)) ≡ breach A1 1 (negsuc 3) ∷ []
allgather_73 = refl

allgather_74 : wrong_arguments (known 0) (Collective (Allgather false 4096 (pos 1) 7 8192 (pos 1) 65 1)) ≡ breach_with H2 1 4 (pos 65) ∷ []
allgather_74 = refl

allgather_75 : wrong_arguments (known 0) (Collective (Allgather false 4096 (pos 1) 7 8192 (pos 1) 64 1)) ≡ breach_with H4 1 1 (pos 64) ∷ []
allgather_75 = refl

allgather_76 : wrong_arguments (known 0) (Collective (Allgather false 4096 (pos 1) 7 8192 (pos 1) 70 1)) ≡ breach H1 1 (pos 70) ∷ []
allgather_76 = refl

allgather_77 : wrong_arguments (known 0) (Collective (Allgather false 4096 (pos 1) 7 8192 (pos 1) 7 0)) ≡ breach H1 2 (pos 0) ∷ []
allgather_77 = refl

allgather_78 : wrong_arguments (known 0) (Collective (Allgather false 4096 (pos 1) 7 8192 (pos 1) 7 65)) ≡ breach_with H2 2 4 (pos 65) ∷ []
allgather_78 = refl

allgather_79 : wrong_arguments (known 1) (Collective (Allgather false 4096 (pos 1) 7 8192 (pos 1) 7 1)) ≡ []
allgather_79 = refl

allgather_80 : wrong_arguments (known 0) (Collective (Allgather false 4096 (negsuc 2) 65 8192 (negsuc 3) 64 1)) ≡ breach A1 0 (negsuc 2) ∷ breach_with H2 0 4 (pos 65) ∷ breach A1 1 (negsuc 3) ∷ breach_with H4 1 1 (pos 64) ∷ []
allgather_80 = refl

allgatherv_81 : wrong_arguments (known 0) (Collective (Allgatherv false 4096 (pos 1) 7 8192 ((record { count = (pos 1); disp = (pos 0) }) ∷ (record { count = (pos 1); disp = (pos 1) }) ∷ (record { count = (pos 1); disp = (pos 2) }) ∷ []) 7 1)) ≡ []
allgatherv_81 = refl

allgatherv_82 : wrong_arguments (known 0) (Collective (Allgatherv false 4096 (negsuc 2) 7 8192 ((record { count = (pos 1); disp = (pos 0) }) ∷ (record { count = (pos 1); disp = (pos 1) }) ∷ (record { count = (pos 1); disp = (pos 2) }) ∷ []) 7 1)) ≡ breach A1 0 (negsuc 2) ∷ []
allgatherv_82 = refl

allgatherv_83 : wrong_arguments (known 0) (Collective (Allgatherv false 4096 (pos 1) 65 8192 ((record { count = (pos 1); disp = (pos 0) }) ∷ (record { count = (pos 1); disp = (pos 1) }) ∷ (record { count = (pos 1); disp = (pos 2) }) ∷ []) 7 1)) ≡ breach_with H2 0 4 (pos 65) ∷ []
allgatherv_83 = refl

allgatherv_84 : wrong_arguments (known 0) (Collective (Allgatherv false 4096 (pos 1) 64 8192 ((record { count = (pos 1); disp = (pos 0) }) ∷ (record { count = (pos 1); disp = (pos 1) }) ∷ (record { count = (pos 1); disp = (pos 2) }) ∷ []) 7 1)) ≡ breach_with H4 0 1 (pos 64) ∷ []
allgatherv_84 = refl

allgatherv_85 : wrong_arguments (known 0) (Collective (Allgatherv false 4096 (pos 1) 0 8192 ((record { count = (pos 1); disp = (pos 0) }) ∷ (record { count = (pos 1); disp = (pos 1) }) ∷ (record { count = (pos 1); disp = (pos 2) }) ∷ []) 7 1)) ≡ breach H1 0 (pos 0) ∷ []
allgatherv_85 = refl

allgatherv_86 : wrong_arguments (known 0) (Collective (Allgatherv false 4096 (pos 1) 7 8192 ((record { count = (pos 1); disp = (pos 0) }) ∷ (record { count = (negsuc 1); disp = (pos 1) }) ∷ (record { count = (negsuc 2); disp = (pos 0) }) ∷ []) 7 1)) ≡ breach A1 1 (negsuc 1) ∷ []
allgatherv_86 = refl

allgatherv_87 : wrong_arguments (known 0) (Collective (Allgatherv false 4096 (pos 1) 7 8192 ((record { count = (pos 1); disp = (pos 0) }) ∷ (record { count = (pos 1); disp = (pos 1) }) ∷ (record { count = (pos 1); disp = (pos 2) }) ∷ []) 65 1)) ≡ breach_with H2 1 4 (pos 65) ∷ []
allgatherv_87 = refl

allgatherv_88 : wrong_arguments (known 0) (Collective (Allgatherv false 4096 (pos 1) 7 8192 ((record { count = (pos 1); disp = (pos 0) }) ∷ (record { count = (pos 1); disp = (pos 1) }) ∷ (record { count = (pos 1); disp = (pos 2) }) ∷ []) 64 1)) ≡ breach_with H4 1 1 (pos 64) ∷ []
allgatherv_88 = refl

allgatherv_89 : wrong_arguments (known 0) (Collective (Allgatherv false 4096 (pos 1) 7 8192 ((record { count = (pos 1); disp = (pos 0) }) ∷ (record { count = (pos 1); disp = (pos 1) }) ∷ (record { count = (pos 1); disp = (pos 2) }) ∷ []) 70 1)) ≡ breach H1 1 (pos 70) ∷ []
allgatherv_89 = refl

allgatherv_90 : wrong_arguments (known 0) (Collective (Allgatherv false 4096 (pos 1) 7 8192 ((record { count = (pos 1); disp = (pos 0) }) ∷ (record { count = (pos 1); disp = (pos 1) }) ∷ (record { count = (pos 1); disp = (pos 2) }) ∷ []) 7 0)) ≡ breach H1 2 (pos 0) ∷ []
allgatherv_90 = refl

allgatherv_91 : wrong_arguments (known 0) (Collective (Allgatherv false 4096 (pos 1) 7 8192 ((record { count = (pos 1); disp = (pos 0) }) ∷ (record { count = (pos 1); disp = (pos 1) }) ∷ (record { count = (pos 1); disp = (pos 2) }) ∷ []) 7 65)) ≡ breach_with H2 2 4 (pos 65) ∷ []
allgatherv_91 = refl

allgatherv_92 : wrong_arguments (known 1) (Collective (Allgatherv false 4096 (pos 1) 7 8192 ((record { count = (pos 1); disp = (pos 0) }) ∷ (record { count = (pos 1); disp = (pos 1) }) ∷ (record { count = (pos 1); disp = (pos 2) }) ∷ []) 7 1)) ≡ []
allgatherv_92 = refl

allgatherv_93 : wrong_arguments (known 0) (Collective (Allgatherv false 4096 (pos 1) 64 8192 ((record { count = (negsuc 0); disp = (pos 0) }) ∷ []) 70 0)) ≡ breach_with H4 0 1 (pos 64) ∷ breach A1 1 (negsuc 0) ∷ breach H1 1 (pos 70) ∷ breach H1 2 (pos 0) ∷ []
allgatherv_93 = refl

alltoall_94 : wrong_arguments (known 0) (Collective (Alltoall false 4096 (pos 1) 7 8192 (pos 1) 7 1)) ≡ []
alltoall_94 = refl

alltoall_95 : wrong_arguments (known 0) (Collective (Alltoall false 4096 (negsuc 2) 7 8192 (pos 1) 7 1)) ≡ breach A1 0 (negsuc 2) ∷ []
alltoall_95 = refl

alltoall_96 : wrong_arguments (known 0) (Collective (Alltoall false 4096 (pos 1) 65 8192 (pos 1) 7 1)) ≡ breach_with H2 0 4 (pos 65) ∷ []
alltoall_96 = refl

alltoall_97 : wrong_arguments (known 0) (Collective (Alltoall false 4096 (pos 1) 64 8192 (pos 1) 7 1)) ≡ breach_with H4 0 1 (pos 64) ∷ []
alltoall_97 = refl

alltoall_98 : wrong_arguments (known 0) (Collective (Alltoall false 4096 (pos 1) 0 8192 (pos 1) 7 1)) ≡ breach H1 0 (pos 0) ∷ []
alltoall_98 = refl

alltoall_99 : wrong_arguments (known 0) (Collective (Alltoall false 4096 (pos 1) 7 8192 (negsuc 3) 7 1)) ≡ breach A1 1 (negsuc 3) ∷ []
alltoall_99 = refl

alltoall_100 : wrong_arguments (known 0) (Collective (Alltoall false 4096 (pos 1) 7 8192 (pos 1) 65 1)) ≡ breach_with H2 1 4 (pos 65) ∷ []
alltoall_100 = refl

alltoall_101 : wrong_arguments (known 0) (Collective (Alltoall false 4096 (pos 1) 7 8192 (pos 1) 64 1)) ≡ breach_with H4 1 1 (pos 64) ∷ []
alltoall_101 = refl

alltoall_102 : wrong_arguments (known 0) (Collective (Alltoall false 4096 (pos 1) 7 8192 (pos 1) 70 1)) ≡ breach H1 1 (pos 70) ∷ []
alltoall_102 = refl

alltoall_103 : wrong_arguments (known 0) (Collective (Alltoall false 4096 (pos 1) 7 8192 (pos 1) 7 0)) ≡ breach H1 2 (pos 0) ∷ []
alltoall_103 = refl

alltoall_104 : wrong_arguments (known 0) (Collective (Alltoall false 4096 (pos 1) 7 8192 (pos 1) 7 65)) ≡ breach_with H2 2 4 (pos 65) ∷ []
alltoall_104 = refl

alltoall_105 : wrong_arguments (known 1) (Collective (Alltoall false 4096 (pos 1) 7 8192 (pos 1) 7 1)) ≡ []
alltoall_105 = refl

alltoall_106 : wrong_arguments (known 0) (Collective (Alltoall false 4096 (negsuc 2) 65 8192 (negsuc 3) 64 65)) ≡ breach A1 0 (negsuc 2) ∷ breach_with H2 0 4 (pos 65) ∷ breach A1 1 (negsuc 3) ∷ breach_with H4 1 1 (pos 64) ∷ breach_with H2 2 4 (pos 65) ∷ []
alltoall_106 = refl

alltoallv_107 : wrong_arguments (known 0) (Collective (Alltoallv false 4096 ((record { count = (pos 1); disp = (pos 0) }) ∷ (record { count = (pos 1); disp = (pos 1) }) ∷ (record { count = (pos 1); disp = (pos 2) }) ∷ []) 7 8192 ((record { count = (pos 1); disp = (pos 0) }) ∷ (record { count = (pos 1); disp = (pos 1) }) ∷ (record { count = (pos 1); disp = (pos 2) }) ∷ []) 7 1)) ≡ []
alltoallv_107 = refl

alltoallv_108 : wrong_arguments (known 0) (Collective (Alltoallv false 4096 ((record { count = (pos 1); disp = (pos 0) }) ∷ (record { count = (negsuc 1); disp = (pos 1) }) ∷ (record { count = (negsuc 2); disp = (pos 0) }) ∷ []) 7 8192 ((record { count = (pos 1); disp = (pos 0) }) ∷ (record { count = (pos 1); disp = (pos 1) }) ∷ (record { count = (pos 1); disp = (pos 2) }) ∷ []) 7 1)) ≡ breach A1 0 (negsuc 1) ∷ []
alltoallv_108 = refl

alltoallv_109 : wrong_arguments (known 0) (Collective (Alltoallv false 4096 ((record { count = (pos 1); disp = (pos 0) }) ∷ (record { count = (pos 1); disp = (pos 1) }) ∷ (record { count = (pos 1); disp = (pos 2) }) ∷ []) 65 8192 ((record { count = (pos 1); disp = (pos 0) }) ∷ (record { count = (pos 1); disp = (pos 1) }) ∷ (record { count = (pos 1); disp = (pos 2) }) ∷ []) 7 1)) ≡ breach_with H2 0 4 (pos 65) ∷ []
alltoallv_109 = refl

alltoallv_110 : wrong_arguments (known 0) (Collective (Alltoallv false 4096 ((record { count = (pos 1); disp = (pos 0) }) ∷ (record { count = (pos 1); disp = (pos 1) }) ∷ (record { count = (pos 1); disp = (pos 2) }) ∷ []) 64 8192 ((record { count = (pos 1); disp = (pos 0) }) ∷ (record { count = (pos 1); disp = (pos 1) }) ∷ (record { count = (pos 1); disp = (pos 2) }) ∷ []) 7 1)) ≡ breach_with H4 0 1 (pos 64) ∷ []
alltoallv_110 = refl

alltoallv_111 : wrong_arguments (known 0) (Collective (Alltoallv false 4096 ((record { count = (pos 1); disp = (pos 0) }) ∷ (record { count = (pos 1); disp = (pos 1) }) ∷ (record { count = (pos 1); disp = (pos 2) }) ∷ []) 0 8192 ((record { count = (pos 1); disp = (pos 0) }) ∷ (record { count = (pos 1); disp = (pos 1) }) ∷ (record { count = (pos 1); disp = (pos 2) }) ∷ []) 7 1)) ≡ breach H1 0 (pos 0) ∷ []
alltoallv_111 = refl

alltoallv_112 : wrong_arguments (known 0) (Collective (Alltoallv false 4096 ((record { count = (pos 1); disp = (pos 0) }) ∷ (record { count = (pos 1); disp = (pos 1) }) ∷ (record { count = (pos 1); disp = (pos 2) }) ∷ []) 7 8192 ((record { count = (pos 1); disp = (pos 0) }) ∷ (record { count = (negsuc 1); disp = (pos 1) }) ∷ (record { count = (negsuc 2); disp = (pos 0) }) ∷ []) 7 1)) ≡ breach A1 1 (negsuc 1) ∷ []
alltoallv_112 = refl

alltoallv_113 : wrong_arguments (known 0) (Collective (Alltoallv false 4096 ((record { count = (pos 1); disp = (pos 0) }) ∷ (record { count = (pos 1); disp = (pos 1) }) ∷ (record { count = (pos 1); disp = (pos 2) }) ∷ []) 7 8192 ((record { count = (pos 1); disp = (pos 0) }) ∷ (record { count = (pos 1); disp = (pos 1) }) ∷ (record { count = (pos 1); disp = (pos 2) }) ∷ []) 65 1)) ≡ breach_with H2 1 4 (pos 65) ∷ []
alltoallv_113 = refl

alltoallv_114 : wrong_arguments (known 0) (Collective (Alltoallv false 4096 ((record { count = (pos 1); disp = (pos 0) }) ∷ (record { count = (pos 1); disp = (pos 1) }) ∷ (record { count = (pos 1); disp = (pos 2) }) ∷ []) 7 8192 ((record { count = (pos 1); disp = (pos 0) }) ∷ (record { count = (pos 1); disp = (pos 1) }) ∷ (record { count = (pos 1); disp = (pos 2) }) ∷ []) 64 1)) ≡ breach_with H4 1 1 (pos 64) ∷ []
alltoallv_114 = refl

alltoallv_115 : wrong_arguments (known 0) (Collective (Alltoallv false 4096 ((record { count = (pos 1); disp = (pos 0) }) ∷ (record { count = (pos 1); disp = (pos 1) }) ∷ (record { count = (pos 1); disp = (pos 2) }) ∷ []) 7 8192 ((record { count = (pos 1); disp = (pos 0) }) ∷ (record { count = (pos 1); disp = (pos 1) }) ∷ (record { count = (pos 1); disp = (pos 2) }) ∷ []) 70 1)) ≡ breach H1 1 (pos 70) ∷ []
alltoallv_115 = refl

alltoallv_116 : wrong_arguments (known 0) (Collective (Alltoallv false 4096 ((record { count = (pos 1); disp = (pos 0) }) ∷ (record { count = (pos 1); disp = (pos 1) }) ∷ (record { count = (pos 1); disp = (pos 2) }) ∷ []) 7 8192 ((record { count = (pos 1); disp = (pos 0) }) ∷ (record { count = (pos 1); disp = (pos 1) }) ∷ (record { count = (pos 1); disp = (pos 2) }) ∷ []) 7 0)) ≡ breach H1 2 (pos 0) ∷ []
alltoallv_116 = refl

alltoallv_117 : wrong_arguments (known 0) (Collective (Alltoallv false 4096 ((record { count = (pos 1); disp = (pos 0) }) ∷ (record { count = (pos 1); disp = (pos 1) }) ∷ (record { count = (pos 1); disp = (pos 2) }) ∷ []) 7 8192 ((record { count = (pos 1); disp = (pos 0) }) ∷ (record { count = (pos 1); disp = (pos 1) }) ∷ (record { count = (pos 1); disp = (pos 2) }) ∷ []) 7 65)) ≡ breach_with H2 2 4 (pos 65) ∷ []
alltoallv_117 = refl

alltoallv_118 : wrong_arguments (known 1) (Collective (Alltoallv false 4096 ((record { count = (pos 1); disp = (pos 0) }) ∷ (record { count = (pos 1); disp = (pos 1) }) ∷ (record { count = (pos 1); disp = (pos 2) }) ∷ []) 7 8192 ((record { count = (pos 1); disp = (pos 0) }) ∷ (record { count = (pos 1); disp = (pos 1) }) ∷ (record { count = (pos 1); disp = (pos 2) }) ∷ []) 7 1)) ≡ []
alltoallv_118 = refl

alltoallv_119 : wrong_arguments (known 0) (Collective (Alltoallv true 4096 ((record { count = (pos 1); disp = (pos 0) }) ∷ (record { count = (pos 1); disp = (pos 0) }) ∷ (record { count = (pos 1); disp = (pos 0) }) ∷ (record { count = (negsuc 0); disp = (pos 0) }) ∷ []) 7 8192 ((record { count = (pos 1); disp = (pos 0) }) ∷ (record { count = (pos 1); disp = (pos 0) }) ∷ (record { count = (pos 1); disp = (pos 0) }) ∷ (record { count = (negsuc 0); disp = (pos 0) }) ∷ []) 64 0)) ≡ breach A1 1 (negsuc 0) ∷ breach_with H4 1 1 (pos 64) ∷ breach H1 2 (pos 0) ∷ []
alltoallv_119 = refl

reduce_120 : wrong_arguments (known 0) (Collective (Reduce false 4096 8192 (pos 1) 7 3 (pos 0) 1)) ≡ []
reduce_120 = refl

reduce_121 : wrong_arguments (known 0) (Collective (Reduce false 4096 8192 (negsuc 0) 7 3 (pos 0) 1)) ≡ breach A1 0 (negsuc 0) ∷ []
reduce_121 = refl

reduce_122 : wrong_arguments (known 0) (Collective (Reduce false 4096 8192 (pos 1) 0 3 (pos 0) 1)) ≡ breach H1 0 (pos 0) ∷ []
reduce_122 = refl

reduce_123 : wrong_arguments (known 0) (Collective (Reduce false 4096 8192 (pos 1) 65 3 (pos 0) 1)) ≡ breach_with H2 0 4 (pos 65) ∷ []
reduce_123 = refl

reduce_124 : wrong_arguments (known 0) (Collective (Reduce false 4096 8192 (pos 1) 64 3 (pos 0) 1)) ≡ breach_with H4 0 1 (pos 64) ∷ []
reduce_124 = refl

reduce_125 : wrong_arguments (known 0) (Collective (Reduce false 4096 8192 (pos 1) 7 65 (pos 0) 1)) ≡ breach_with H2 1 4 (pos 65) ∷ []
reduce_125 = refl

reduce_126 : wrong_arguments (known 0) (Collective (Reduce false 4096 8192 (pos 1) 7 70 (pos 0) 1)) ≡ breach H1 1 (pos 70) ∷ []
reduce_126 = refl

reduce_127 : wrong_arguments (known 0) (Collective (Reduce false 4096 8192 (pos 1) 7 3 (pos 3) 1)) ≡ breach A4 0 (pos 3) ∷ []
reduce_127 = refl

reduce_128 : wrong_arguments (known 0) (Collective (Reduce false 4096 8192 (pos 1) 7 3 (pos 0) 0)) ≡ breach H1 2 (pos 0) ∷ []
reduce_128 = refl

reduce_129 : wrong_arguments (known 0) (Collective (Reduce false 4096 8192 (pos 1) 7 3 (pos 0) 65)) ≡ breach_with H2 2 4 (pos 65) ∷ []
reduce_129 = refl

reduce_130 : wrong_arguments (known 1) (Collective (Reduce false 4096 8192 (pos 1) 7 3 (pos 0) 1)) ≡ []
reduce_130 = refl

reduce_131 : wrong_arguments (known 1) (Collective (Reduce false 4096 8192 (negsuc 0) 66 65 (pos 2) 1)) ≡ breach A1 0 (negsuc 0) ∷ breach_with H2 1 4 (pos 65) ∷ []
reduce_131 = refl

allreduce_132 : wrong_arguments (known 0) (Collective (Allreduce false 4096 8192 (pos 1) 7 3 1)) ≡ []
allreduce_132 = refl

allreduce_133 : wrong_arguments (known 0) (Collective (Allreduce false 4096 8192 (negsuc 0) 7 3 1)) ≡ breach A1 0 (negsuc 0) ∷ []
allreduce_133 = refl

allreduce_134 : wrong_arguments (known 0) (Collective (Allreduce false 4096 8192 (pos 1) 0 3 1)) ≡ breach H1 0 (pos 0) ∷ []
allreduce_134 = refl

allreduce_135 : wrong_arguments (known 0) (Collective (Allreduce false 4096 8192 (pos 1) 65 3 1)) ≡ breach_with H2 0 4 (pos 65) ∷ []
allreduce_135 = refl

allreduce_136 : wrong_arguments (known 0) (Collective (Allreduce false 4096 8192 (pos 1) 64 3 1)) ≡ breach_with H4 0 1 (pos 64) ∷ []
allreduce_136 = refl

allreduce_137 : wrong_arguments (known 0) (Collective (Allreduce false 4096 8192 (pos 1) 7 65 1)) ≡ breach_with H2 1 4 (pos 65) ∷ []
allreduce_137 = refl

allreduce_138 : wrong_arguments (known 0) (Collective (Allreduce false 4096 8192 (pos 1) 7 70 1)) ≡ breach H1 1 (pos 70) ∷ []
allreduce_138 = refl

allreduce_139 : wrong_arguments (known 0) (Collective (Allreduce false 4096 8192 (pos 1) 7 3 0)) ≡ breach H1 2 (pos 0) ∷ []
allreduce_139 = refl

allreduce_140 : wrong_arguments (known 0) (Collective (Allreduce false 4096 8192 (pos 1) 7 3 65)) ≡ breach_with H2 2 4 (pos 65) ∷ []
allreduce_140 = refl

allreduce_141 : wrong_arguments (known 1) (Collective (Allreduce false 4096 8192 (pos 1) 7 3 1)) ≡ []
allreduce_141 = refl

allreduce_142 : wrong_arguments (known 1) (Collective (Allreduce false 4096 8192 (pos 1) 0 65 70)) ≡ breach H1 0 (pos 0) ∷ breach_with H2 1 4 (pos 65) ∷ breach H1 2 (pos 70) ∷ []
allreduce_142 = refl

reducescatter_143 : wrong_arguments (known 0) (Collective (ReduceScatter false 4096 8192 ((pos 1) ∷ (pos 1) ∷ (pos 1) ∷ []) 7 3 1)) ≡ []
reducescatter_143 = refl

reducescatter_144 : wrong_arguments (known 0) (Collective (ReduceScatter false 4096 8192 ((pos 1) ∷ (negsuc 0) ∷ (negsuc 1) ∷ []) 7 3 1)) ≡ breach A1 0 (negsuc 0) ∷ []
reducescatter_144 = refl

reducescatter_145 : wrong_arguments (known 0) (Collective (ReduceScatter false 4096 8192 ((pos 1) ∷ (pos 1) ∷ (pos 1) ∷ []) 0 3 1)) ≡ breach H1 0 (pos 0) ∷ []
reducescatter_145 = refl

reducescatter_146 : wrong_arguments (known 0) (Collective (ReduceScatter false 4096 8192 ((pos 1) ∷ (pos 1) ∷ (pos 1) ∷ []) 65 3 1)) ≡ breach_with H2 0 4 (pos 65) ∷ []
reducescatter_146 = refl

reducescatter_147 : wrong_arguments (known 0) (Collective (ReduceScatter false 4096 8192 ((pos 1) ∷ (pos 1) ∷ (pos 1) ∷ []) 64 3 1)) ≡ breach_with H4 0 1 (pos 64) ∷ []
reducescatter_147 = refl

reducescatter_148 : wrong_arguments (known 0) (Collective (ReduceScatter false 4096 8192 ((pos 1) ∷ (pos 1) ∷ (pos 1) ∷ []) 7 65 1)) ≡ breach_with H2 1 4 (pos 65) ∷ []
reducescatter_148 = refl

reducescatter_149 : wrong_arguments (known 0) (Collective (ReduceScatter false 4096 8192 ((pos 1) ∷ (pos 1) ∷ (pos 1) ∷ []) 7 70 1)) ≡ breach H1 1 (pos 70) ∷ []
reducescatter_149 = refl

reducescatter_150 : wrong_arguments (known 0) (Collective (ReduceScatter false 4096 8192 ((pos 1) ∷ (pos 1) ∷ (pos 1) ∷ []) 7 3 0)) ≡ breach H1 2 (pos 0) ∷ []
reducescatter_150 = refl

reducescatter_151 : wrong_arguments (known 0) (Collective (ReduceScatter false 4096 8192 ((pos 1) ∷ (pos 1) ∷ (pos 1) ∷ []) 7 3 65)) ≡ breach_with H2 2 4 (pos 65) ∷ []
reducescatter_151 = refl

reducescatter_152 : wrong_arguments (known 1) (Collective (ReduceScatter false 4096 8192 ((pos 1) ∷ (pos 1) ∷ (pos 1) ∷ []) 7 3 1)) ≡ []
reducescatter_152 = refl

reducescatter_153 : wrong_arguments (known 0) (Collective (ReduceScatter true 4096 8192 ((negsuc 0) ∷ []) 66 70 0)) ≡ breach A1 0 (negsuc 0) ∷ breach H1 1 (pos 70) ∷ breach H1 2 (pos 0) ∷ []
reducescatter_153 = refl

reducescatterblock_154 : wrong_arguments (known 0) (Collective (ReduceScatterBlock false 4096 8192 (pos 1) 7 3 1)) ≡ []
reducescatterblock_154 = refl

reducescatterblock_155 : wrong_arguments (known 0) (Collective (ReduceScatterBlock false 4096 8192 (negsuc 0) 7 3 1)) ≡ breach A1 0 (negsuc 0) ∷ []
reducescatterblock_155 = refl

reducescatterblock_156 : wrong_arguments (known 0) (Collective (ReduceScatterBlock false 4096 8192 (pos 1) 0 3 1)) ≡ breach H1 0 (pos 0) ∷ []
reducescatterblock_156 = refl

reducescatterblock_157 : wrong_arguments (known 0) (Collective (ReduceScatterBlock false 4096 8192 (pos 1) 65 3 1)) ≡ breach_with H2 0 4 (pos 65) ∷ []
reducescatterblock_157 = refl

reducescatterblock_158 : wrong_arguments (known 0) (Collective (ReduceScatterBlock false 4096 8192 (pos 1) 64 3 1)) ≡ breach_with H4 0 1 (pos 64) ∷ []
reducescatterblock_158 = refl

reducescatterblock_159 : wrong_arguments (known 0) (Collective (ReduceScatterBlock false 4096 8192 (pos 1) 7 65 1)) ≡ breach_with H2 1 4 (pos 65) ∷ []
reducescatterblock_159 = refl

reducescatterblock_160 : wrong_arguments (known 0) (Collective (ReduceScatterBlock false 4096 8192 (pos 1) 7 70 1)) ≡ breach H1 1 (pos 70) ∷ []
reducescatterblock_160 = refl

reducescatterblock_161 : wrong_arguments (known 0) (Collective (ReduceScatterBlock false 4096 8192 (pos 1) 7 3 0)) ≡ breach H1 2 (pos 0) ∷ []
reducescatterblock_161 = refl

reducescatterblock_162 : wrong_arguments (known 0) (Collective (ReduceScatterBlock false 4096 8192 (pos 1) 7 3 65)) ≡ breach_with H2 2 4 (pos 65) ∷ []
reducescatterblock_162 = refl

reducescatterblock_163 : wrong_arguments (known 1) (Collective (ReduceScatterBlock false 4096 8192 (pos 1) 7 3 1)) ≡ []
reducescatterblock_163 = refl

reducescatterblock_164 : wrong_arguments (known 0) (Collective (ReduceScatterBlock false 4096 8192 (negsuc 0) 7 70 0)) ≡ breach A1 0 (negsuc 0) ∷ breach H1 1 (pos 70) ∷ breach H1 2 (pos 0) ∷ []
reducescatterblock_164 = refl

scan_165 : wrong_arguments (known 0) (Collective (Scan false 4096 8192 (pos 1) 7 3 1)) ≡ []
scan_165 = refl

scan_166 : wrong_arguments (known 0) (Collective (Scan false 4096 8192 (negsuc 0) 7 3 1)) ≡ breach A1 0 (negsuc 0) ∷ []
scan_166 = refl

scan_167 : wrong_arguments (known 0) (Collective (Scan false 4096 8192 (pos 1) 0 3 1)) ≡ breach H1 0 (pos 0) ∷ []
scan_167 = refl

scan_168 : wrong_arguments (known 0) (Collective (Scan false 4096 8192 (pos 1) 65 3 1)) ≡ breach_with H2 0 4 (pos 65) ∷ []
scan_168 = refl

scan_169 : wrong_arguments (known 0) (Collective (Scan false 4096 8192 (pos 1) 64 3 1)) ≡ breach_with H4 0 1 (pos 64) ∷ []
scan_169 = refl

scan_170 : wrong_arguments (known 0) (Collective (Scan false 4096 8192 (pos 1) 7 65 1)) ≡ breach_with H2 1 4 (pos 65) ∷ []
scan_170 = refl

scan_171 : wrong_arguments (known 0) (Collective (Scan false 4096 8192 (pos 1) 7 70 1)) ≡ breach H1 1 (pos 70) ∷ []
scan_171 = refl

scan_172 : wrong_arguments (known 0) (Collective (Scan false 4096 8192 (pos 1) 7 3 0)) ≡ breach H1 2 (pos 0) ∷ []
scan_172 = refl

scan_173 : wrong_arguments (known 0) (Collective (Scan false 4096 8192 (pos 1) 7 3 65)) ≡ breach_with H2 2 4 (pos 65) ∷ []
scan_173 = refl

scan_174 : wrong_arguments (known 1) (Collective (Scan false 4096 8192 (pos 1) 7 3 1)) ≡ []
scan_174 = refl

scan_175 : wrong_arguments (known 0) (Collective (Scan false 4096 8192 (negsuc 0) 7 65 64)) ≡ breach A1 0 (negsuc 0) ∷ breach_with H2 1 4 (pos 65) ∷ []
scan_175 = refl

exscan_176 : wrong_arguments (known 0) (Collective (Exscan false 4096 8192 (pos 1) 7 3 1)) ≡ []
exscan_176 = refl

exscan_177 : wrong_arguments (known 0) (Collective (Exscan false 4096 8192 (negsuc 0) 7 3 1)) ≡ breach A1 0 (negsuc 0) ∷ []
exscan_177 = refl

exscan_178 : wrong_arguments (known 0) (Collective (Exscan false 4096 8192 (pos 1) 0 3 1)) ≡ breach H1 0 (pos 0) ∷ []
exscan_178 = refl

exscan_179 : wrong_arguments (known 0) (Collective (Exscan false 4096 8192 (pos 1) 65 3 1)) ≡ breach_with H2 0 4 (pos 65) ∷ []
exscan_179 = refl

exscan_180 : wrong_arguments (known 0) (Collective (Exscan false 4096 8192 (pos 1) 64 3 1)) ≡ breach_with H4 0 1 (pos 64) ∷ []
exscan_180 = refl

exscan_181 : wrong_arguments (known 0) (Collective (Exscan false 4096 8192 (pos 1) 7 65 1)) ≡ breach_with H2 1 4 (pos 65) ∷ []
exscan_181 = refl

exscan_182 : wrong_arguments (known 0) (Collective (Exscan false 4096 8192 (pos 1) 7 70 1)) ≡ breach H1 1 (pos 70) ∷ []
exscan_182 = refl

exscan_183 : wrong_arguments (known 0) (Collective (Exscan false 4096 8192 (pos 1) 7 3 0)) ≡ breach H1 2 (pos 0) ∷ []
exscan_183 = refl

exscan_184 : wrong_arguments (known 0) (Collective (Exscan false 4096 8192 (pos 1) 7 3 65)) ≡ breach_with H2 2 4 (pos 65) ∷ []
exscan_184 = refl

exscan_185 : wrong_arguments (known 1) (Collective (Exscan false 4096 8192 (pos 1) 7 3 1)) ≡ []
exscan_185 = refl

exscan_186 : wrong_arguments (known 0) (Collective (Exscan true 4096 8192 (negsuc 0) 64 70 70)) ≡ breach A1 0 (negsuc 0) ∷ breach_with H4 0 1 (pos 64) ∷ breach H1 1 (pos 70) ∷ breach H1 2 (pos 70) ∷ []
exscan_186 = refl
