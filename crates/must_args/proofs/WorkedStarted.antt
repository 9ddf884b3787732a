-- Worked calls of each kind, with what the rules A1 to A7 and H1 to H4 find in them: a breach of each rule that the kind can break at each
-- part, a call that breaks none at two positions, and one that breaks several. Another program, written from the texts of the rules alone,
-- worked out what is found.
use Rattle.std.proofs.Common.{◌≡◌, ℕ, ◌==◌, pos, negsuc, true, false, ◌||◌, [], ◌∷◌, Some, None, refl, nat_lt, cond}
use Rattle.must_call.specs.declared.life.Life.TheVariants.{Never, Live, Freed, Predefined}
use Rattle.must_call.specs.declared.body.Body.TheVariants.{Started}
use Rattle.must_call.specs.declared.started.Started.TheVariants.{Ibarrier, Ibcast, Igather, Iallgather, Ialltoall, Ireduce, Iallreduce}
use Rattle.must_find.specs.declared.rule.Rule.TheVariants.{A1, A4, H1, H2, H4}
use Rattle.must_rules.specs.Facts.{Facts}
use Rattle.must_rules.specs.Breaches.{breach, breach_with}
use Rattle.must_rules.specs.Clear.{wrong_arguments}

-- Datatypes 64 (not committed) and 66 (committed) are live, as all other handles of these numbers; 65 was freed. Communicator 1 has three
-- members, of which this rank is at the given position, and 64 has two; group 64 has two, and 66 isn't sound.
abbrev known : ℕ → Facts
known p = record {
  tag_ub = pos 40000;
  life = λ class n. cond (n == 0) Never (cond (nat_lt n 64) Predefined (cond (n == 64) (Live 1) (cond (n == 65) (Freed 2 4) (cond (n == 66) (Live 3) Never))));
  committed = λ n. nat_lt n 64 || (n == 66);
  comm = λ n. cond (n == 1) (Some (record { members = 0 ∷ 1 ∷ 2 ∷ []; position = p })) (cond (n == 64) (Some (record { members = 2 ∷ 0 ∷ []; position = 1 })) None);
  group = λ n. cond (n == 64) (Some (2 ∷ 0 ∷ [])) (cond (n == 1) (Some []) None);
}

ibarrier_0 : wrong_arguments (known 0) (Started (Ibarrier 1 None)) ≡ []
ibarrier_0 = refl

ibarrier_1 : wrong_arguments (known 0) (Started (Ibarrier 0 None)) ≡ breach H1 0 (pos 0) ∷ []
ibarrier_1 = refl

ibarrier_2 : wrong_arguments (known 0) (Started (Ibarrier 65 None)) ≡ breach_with H2 0 4 (pos 65) ∷ []
ibarrier_2 = refl

ibcast_3 : wrong_arguments (known 0) (Started (Ibcast 4096 (pos 1) 7 (pos 0) 1 None)) ≡ []
ibcast_3 = refl

ibcast_4 : wrong_arguments (known 0) (Started (Ibcast 4096 (negsuc 0) 7 (pos 0) 1 None)) ≡ breach A1 0 (negsuc 0) ∷ []
ibcast_4 = refl

ibcast_5 : wrong_arguments (known 0) (Started (Ibcast 4096 (pos 1) 0 (pos 0) 1 None)) ≡ breach H1 0 (pos 0) ∷ []
ibcast_5 = refl

ibcast_6 : wrong_arguments (known 0) (Started (Ibcast 4096 (pos 1) 65 (pos 0) 1 None)) ≡ breach_with H2 0 4 (pos 65) ∷ []
ibcast_6 = refl

ibcast_7 : wrong_arguments (known 0) (Started (Ibcast 4096 (pos 1) 64 (pos 0) 1 None)) ≡ breach_with H4 0 1 (pos 64) ∷ []
ibcast_7 = refl

ibcast_8 : wrong_arguments (known 0) (Started (Ibcast 4096 (pos 1) 7 (pos 3) 1 None)) ≡ breach A4 0 (pos 3) ∷ []
ibcast_8 = refl

ibcast_9 : wrong_arguments (known 0) (Started (Ibcast 4096 (pos 1) 7 (pos 0) 0 None)) ≡ breach H1 1 (pos 0) ∷ []
ibcast_9 = refl

ibcast_10 : wrong_arguments (known 0) (Started (Ibcast 4096 (pos 1) 7 (pos 0) 65 None)) ≡ breach_with H2 1 4 (pos 65) ∷ []
ibcast_10 = refl

ibcast_11 : wrong_arguments (known 1) (Started (Ibcast 4096 (pos 1) 7 (pos 0) 1 None)) ≡ []
ibcast_11 = refl

igather_12 : wrong_arguments (known 0) (Started (Igather false 4096 (pos 1) 7 8192 (pos 1) 7 (pos 0) 1 None)) ≡ []
igather_12 = refl

igather_13 : wrong_arguments (known 0) (Started (Igather false 4096 (negsuc 2) 7 8192 (pos 1) 7 (pos 0) 1 None)) ≡ breach A1 0 (negsuc 2) ∷ []
igather_13 = refl

igather_14 : wrong_arguments (known 0) (Started (Igather false 4096 (pos 1) 65 8192 (pos 1) 7 (pos 0) 1 None)) ≡ breach_with H2 0 4 (pos 65) ∷ []
igather_14 = refl

igather_15 : wrong_arguments (known 0) (Started (Igather false 4096 (pos 1) 64 8192 (pos 1) 7 (pos 0) 1 None)) ≡ breach_with H4 0 1 (pos 64) ∷ []
igather_15 = refl

igather_16 : wrong_arguments (known 0) (Started (Igather false 4096 (pos 1) 0 8192 (pos 1) 7 (pos 0) 1 None)) ≡ breach H1 0 (pos 0) ∷ []
igather_16 = refl

igather_17 : wrong_arguments (known 0) (Started (Igather false 4096 (pos 1) 7 8192 (negsuc 3) 7 (pos 0) 1 None)) ≡ breach A1 1 (negsuc 3) ∷ []
igather_17 = refl

igather_18 : wrong_arguments (known 0) (Started (Igather false 4096 (pos 1) 7 8192 (pos 1) 65 (pos 0) 1 None)) ≡ breach_with H2 1 4 (pos 65) ∷ []
igather_18 = refl

igather_19 : wrong_arguments (known 0) (Started (Igather false 4096 (pos 1) 7 8192 (pos 1) 64 (pos 0) 1 None)) ≡ breach_with H4 1 1 (pos 64) ∷ []
igather_19 = refl

igather_20 : wrong_arguments (known 0) (Started (Igather false 4096 (pos 1) 7 8192 (pos 1) 70 (pos 0) 1 None)) ≡ breach H1 1 (pos 70) ∷ []
igather_20 = refl

igather_21 : wrong_arguments (known 0) (Started (Igather false 4096 (pos 1) 7 8192 (pos 1) 7 (pos 3) 1 None)) ≡ breach A4 0 (pos 3) ∷ []
igather_21 = refl

igather_22 : wrong_arguments (known 0) (Started (Igather false 4096 (pos 1) 7 8192 (pos 1) 7 (pos 0) 0 None)) ≡ breach H1 2 (pos 0) ∷ []
igather_22 = refl

igather_23 : wrong_arguments (known 0) (Started (Igather false 4096 (pos 1) 7 8192 (pos 1) 7 (pos 0) 65 None)) ≡ breach_with H2 2 4 (pos 65) ∷ []
igather_23 = refl

igather_24 : wrong_arguments (known 1) (Started (Igather false 4096 (pos 1) 7 8192 (pos 1) 7 (pos 0) 1 None)) ≡ []
igather_24 = refl

igather_25 : wrong_arguments (known 0) (Started (Igather false 4096 (negsuc 2) 64 8192 (negsuc 3) 7 (pos 2) 1 None)) ≡ breach A1 0 (negsuc 2) ∷ breach_with H4 0 1 (pos 64) ∷ []
igather_25 = refl

iallgather_26 : wrong_arguments (known 0) (Started (Iallgather false 4096 (pos 1) 7 8192 (pos 1) 7 1 None)) ≡ []
iallgather_26 = refl

iallgather_27 : wrong_arguments (known 0) (Started (Iallgather false 4096 (negsuc 2) 7 8192 (pos 1) 7 1 None)) ≡ breach A1 0 (negsuc 2) ∷ []
iallgather_27 = refl

iallgather_28 : wrong_arguments (known 0) (Started (Iallgather false 4096 (pos 1) 65 8192 (pos 1) 7 1 None)) ≡ breach_with H2 0 4 (pos 65) ∷ []
iallgather_28 = refl

iallgather_29 : wrong_arguments (known 0) (Started (Iallgather false 4096 (pos 1) 64 8192 (pos 1) 7 1 None)) ≡ breach_with H4 0 1 (pos 64) ∷ []
iallgather_29 = refl

iallgather_30 : wrong_arguments (known 0) (Started (Iallgather false 4096 (pos 1) 0 8192 (pos 1) 7 1 None)) ≡ breach H1 0 (pos 0) ∷ []
iallgather_30 = refl

iallgather_31 : wrong_arguments (known 0) (Started (Iallgather false 4096 (pos 1) 7 8192 (negsuc 3) 7 1 None)) ≡ breach A1 1 (negsuc 3) ∷ []
iallgather_31 = refl

iallgather_32 : wrong_arguments (known 0) (Started (Iallgather false 4096 (pos 1) 7 8192 (pos 1) 65 1 None)) ≡ breach_with H2 1 4 (pos 65) ∷ []
iallgather_32 = refl

iallgather_33 : wrong_arguments (known 0) (Started (Iallgather false 4096 (pos 1) 7 8192 (pos 1) 64 1 None)) ≡ breach_with H4 1 1 (pos 64) ∷ []
iallgather_33 = refl

iallgather_34 : wrong_arguments (known 0) (Started (Iallgather false 4096 (pos 1) 7 8192 (pos 1) 70 1 None)) ≡ breach H1 1 (pos 70) ∷ []
iallgather_34 = refl

iallgather_35 : wrong_arguments (known 0) (Started (Iallgather false 4096 (pos 1) 7 8192 (pos 1) 7 0 None)) ≡ breach H1 2 (pos 0) ∷ []
iallgather_35 = refl

iallgather_36 : wrong_arguments (known 0) (Started (Iallgather false 4096 (pos 1) 7 8192 (pos 1) 7 65 None)) ≡ breach_with H2 2 4 (pos 65) ∷ []
iallgather_36 = refl

iallgather_37 : wrong_arguments (known 1) (Started (Iallgather false 4096 (pos 1) 7 8192 (pos 1) 7 1 None)) ≡ []
iallgather_37 = refl

iallgather_38 : wrong_arguments (known 1) (Started (Iallgather false 4096 (pos 1) 0 8192 (negsuc 3) 7 0 None)) ≡ breach H1 0 (pos 0) ∷ breach A1 1 (negsuc 3) ∷ breach H1 2 (pos 0) ∷ []
iallgather_38 = refl

ialltoall_39 : wrong_arguments (known 0) (Started (Ialltoall false 4096 (pos 1) 7 8192 (pos 1) 7 1 None)) ≡ []
ialltoall_39 = refl

ialltoall_40 : wrong_arguments (known 0) (Started (Ialltoall false 4096 (negsuc 2) 7 8192 (pos 1) 7 1 None)) ≡ breach A1 0 (negsuc 2) ∷ []
ialltoall_40 = refl

ialltoall_41 : wrong_arguments (known 0) (Started (Ialltoall false 4096 (pos 1) 65 8192 (pos 1) 7 1 None)) ≡ breach_with H2 0 4 (pos 65) ∷ []
ialltoall_41 = refl

ialltoall_42 : wrong_arguments (known 0) (Started (Ialltoall false 4096 (pos 1) 64 8192 (pos 1) 7 1 None)) ≡ breach_with H4 0 1 (pos 64) ∷ []
ialltoall_42 = refl

ialltoall_43 : wrong_arguments (known 0) (Started (Ialltoall false 4096 (pos 1) 0 8192 (pos 1) 7 1 None)) ≡ breach H1 0 (pos 0) ∷ []
ialltoall_43 = refl

ialltoall_44 : wrong_arguments (known 0) (Started (Ialltoall false 4096 (pos 1) 7 8192 (negsuc 3) 7 1 None)) ≡ breach A1 1 (negsuc 3) ∷ []
ialltoall_44 = refl

ialltoall_45 : wrong_arguments (known 0) (Started (Ialltoall false 4096 (pos 1) 7 8192 (pos 1) 65 1 None)) ≡ breach_with H2 1 4 (pos 65) ∷ []
ialltoall_45 = refl

ialltoall_46 : wrong_arguments (known 0) (Started (Ialltoall false 4096 (pos 1) 7 8192 (pos 1) 64 1 None)) ≡ breach_with H4 1 1 (pos 64) ∷ []
ialltoall_46 = refl

ialltoall_47 : wrong_arguments (known 0) (Started (Ialltoall false 4096 (pos 1) 7 8192 (pos 1) 70 1 None)) ≡ breach H1 1 (pos 70) ∷ []
ialltoall_47 = refl

ialltoall_48 : wrong_arguments (known 0) (Started (Ialltoall false 4096 (pos 1) 7 8192 (pos 1) 7 0 None)) ≡ breach H1 2 (pos 0) ∷ []
ialltoall_48 = refl

ialltoall_49 : wrong_arguments (known 0) (Started (Ialltoall false 4096 (pos 1) 7 8192 (pos 1) 7 65 None)) ≡ breach_with H2 2 4 (pos 65) ∷ []
ialltoall_49 = refl

ialltoall_50 : wrong_arguments (known 1) (Started (Ialltoall false 4096 (pos 1) 7 8192 (pos 1) 7 1 None)) ≡ []
ialltoall_50 = refl

ialltoall_51 : wrong_arguments (known 1) (Started (Ialltoall false 4096 (negsuc 2) 0 8192 (negsuc 3) 64 1 None)) ≡ breach A1 0 (negsuc 2) ∷ breach H1 0 (pos 0) ∷ breach A1 1 (negsuc 3) ∷ breach_with H4 1 1 (pos 64) ∷ []
ialltoall_51 = refl

ireduce_52 : wrong_arguments (known 0) (Started (Ireduce false 4096 8192 (pos 1) 7 3 (pos 0) 1 None)) ≡ []
ireduce_52 = refl

ireduce_53 : wrong_arguments (known 0) (Started (Ireduce false 4096 8192 (negsuc 0) 7 3 (pos 0) 1 None)) ≡ breach A1 0 (negsuc 0) ∷ []
ireduce_53 = refl

ireduce_54 : wrong_arguments (known 0) (Started (Ireduce false 4096 8192 (pos 1) 0 3 (pos 0) 1 None)) ≡ breach H1 0 (pos 0) ∷ []
ireduce_54 = refl

ireduce_55 : wrong_arguments (known 0) (Started (Ireduce false 4096 8192 (pos 1) 65 3 (pos 0) 1 None)) ≡ breach_with H2 0 4 (pos 65) ∷ []
ireduce_55 = refl

ireduce_56 : wrong_arguments (known 0) (Started (Ireduce false 4096 8192 (pos 1) 64 3 (pos 0) 1 None)) ≡ breach_with H4 0 1 (pos 64) ∷ []
ireduce_56 = refl

ireduce_57 : wrong_arguments (known 0) (Started (Ireduce false 4096 8192 (pos 1) 7 65 (pos 0) 1 None)) ≡ breach_with H2 1 4 (pos 65) ∷ []
ireduce_57 = refl

ireduce_58 : wrong_arguments (known 0) (Started (Ireduce false 4096 8192 (pos 1) 7 70 (pos 0) 1 None)) ≡ breach H1 1 (pos 70) ∷ []
ireduce_58 = refl

ireduce_59 : wrong_arguments (known 0) (Started (Ireduce false 4096 8192 (pos 1) 7 3 (pos 3) 1 None)) ≡ breach A4 0 (pos 3) ∷ []
ireduce_59 = refl

ireduce_60 : wrong_arguments (known 0) (Started (Ireduce false 4096 8192 (pos 1) 7 3 (pos 0) 0 None)) ≡ breach H1 2 (pos 0) ∷ []
ireduce_60 = refl

ireduce_61 : wrong_arguments (known 0) (Started (Ireduce false 4096 8192 (pos 1) 7 3 (pos 0) 65 None)) ≡ breach_with H2 2 4 (pos 65) ∷ []
ireduce_61 = refl

ireduce_62 : wrong_arguments (known 1) (Started (Ireduce false 4096 8192 (pos 1) 7 3 (pos 0) 1 None)) ≡ []
ireduce_62 = refl

ireduce_63 : wrong_arguments (known 0) (Started (Ireduce false 4096 8192 (negsuc 0) 0 65 (pos 0) 1 None)) ≡ breach A1 0 (negsuc 0) ∷ breach H1 0 (pos 0) ∷ breach_with H2 1 4 (pos 65) ∷ []
ireduce_63 = refl

iallreduce_64 : wrong_arguments (known 0) (Started (Iallreduce false 4096 8192 (pos 1) 7 3 1 None)) ≡ []
iallreduce_64 = refl

iallreduce_65 : wrong_arguments (known 0) (Started (Iallreduce false 4096 8192 (negsuc 0) 7 3 1 None)) ≡ breach A1 0 (negsuc 0) ∷ []
iallreduce_65 = refl

iallreduce_66 : wrong_arguments (known 0) (Started (Iallreduce false 4096 8192 (pos 1) 0 3 1 None)) ≡ breach H1 0 (pos 0) ∷ []
iallreduce_66 = refl

iallreduce_67 : wrong_arguments (known 0) (Started (Iallreduce false 4096 8192 (pos 1) 65 3 1 None)) ≡ breach_with H2 0 4 (pos 65) ∷ []
iallreduce_67 = refl

iallreduce_68 : wrong_arguments (known 0) (Started (Iallreduce false 4096 8192 (pos 1) 64 3 1 None)) ≡ breach_with H4 0 1 (pos 64) ∷ []
iallreduce_68 = refl

iallreduce_69 : wrong_arguments (known 0) (Started (Iallreduce false 4096 8192 (pos 1) 7 65 1 None)) ≡ breach_with H2 1 4 (pos 65) ∷ []
iallreduce_69 = refl

iallreduce_70 : wrong_arguments (known 0) (Started (Iallreduce false 4096 8192 (pos 1) 7 70 1 None)) ≡ breach H1 1 (pos 70) ∷ []
iallreduce_70 = refl

iallreduce_71 : wrong_arguments (known 0) (Started (Iallreduce false 4096 8192 (pos 1) 7 3 0 None)) ≡ breach H1 2 (pos 0) ∷ []
iallreduce_71 = refl

iallreduce_72 : wrong_arguments (known 0) (Started (Iallreduce false 4096 8192 (pos 1) 7 3 65 None)) ≡ breach_with H2 2 4 (pos 65) ∷ []
iallreduce_72 = refl

iallreduce_73 : wrong_arguments (known 1) (Started (Iallreduce false 4096 8192 (pos 1) 7 3 1 None)) ≡ []
iallreduce_73 = refl

iallreduce_74 : wrong_arguments (known 0) (Started (Iallreduce true 4096 8192 (negsuc 0) 0 65 2 None)) ≡ breach A1 0 (negsuc 0) ∷ breach H1 0 (pos 0) ∷ breach_with H2 1 4 (pos 65) ∷ []
iallreduce_74 = refl
