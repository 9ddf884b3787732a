-- Worked calls of each kind, with what the rules A1 to A7 and H1 to H4 find in them: a breach of each rule that the kind can break at each
-- part, a call that breaks none at two positions, and one that breaks several. Another program, written from the texts of the rules alone,
-- worked out what is found.
use Rattle.std.proofs.Common.{◌≡◌, ℕ, ◌==◌, pos, negsuc, true, ◌||◌, [], ◌∷◌, Some, None, refl, nat_lt, cond}
use Rattle.must_call.specs.declared.life.Life.TheVariants.{Never, Live, Freed, Predefined}
use Rattle.must_call.specs.declared.body.Body.TheVariants.{Derive, Object}
use Rattle.must_call.specs.declared.derive.Derive.TheVariants.{TypeContiguous, TypeVector, TypeHvector, TypeIndexed, TypeHindexed, TypeIndexedBlock, TypeHindexedBlock, TypeStruct, TypeDup, TypeResized, TypeSubarray, TypeCommit, TypeFree}
use Rattle.must_call.specs.declared.object.Object.TheVariants.{OpCreate, OpFree, CommGroup, GroupIncl, GroupExcl, GroupUnion, GroupIntersection, GroupDifference, GroupFree, CommDup, CommSplit, CommCreate, CommFree}
use Rattle.must_find.specs.declared.rule.Rule.TheVariants.{A1, A5, A6, A7, H1, H2, H3}
use Rattle.must_rules.specs.Facts.{Facts}
use Rattle.must_rules.specs.Breaches.{breach, breach_with}
use Rattle.must_rules.specs.Clear.{wrong_arguments}

-- Datatypes 64 (not committed) and 66 (committed) are live, as all other handles of these numbers; 65 was freed. Communicator 1 has three
-- members, of which this rank is at the given position, and 64 has two; group 64 has two, and 66 isn't sound.
abbrev known : ℕ → Facts
known p = record {
  tag_ub = pos 40000;
  life = λ class n. cond (n == 0) Never (cond (nat_lt n 64) Predefined (cond (n == 64) (Live 1) (cond (n == 65) (Freed 2 4) (cond (n == 66) (Live 3) Never))));
  committed = λ n. nat_lt n 64 || (n == 66);
  comm = λ n. cond (n == 1) (Some (record { members = 0 ∷ 1 ∷ 2 ∷ []; position = p })) (cond (n == 64) (Some (record { members = 2 ∷ 0 ∷ []; position = 1 })) None);
  group = λ n. cond (n == 64) (Some (2 ∷ 0 ∷ [])) (cond (n == 1) (Some []) None);
}

typecontiguous_0 : wrong_arguments (known 0) (Derive (TypeContiguous (pos 1) 7 None)) ≡ []
typecontiguous_0 = refl

typecontiguous_1 : wrong_arguments (known 0) (Derive (TypeContiguous (negsuc 0) 7 None)) ≡ breach A1 0 (negsuc 0) ∷ []
typecontiguous_1 = refl

typecontiguous_2 : wrong_arguments (known 0) (Derive (TypeContiguous (pos 1) 65 None)) ≡ breach_with H2 0 4 (pos 65) ∷ []
typecontiguous_2 = refl

typecontiguous_3 : wrong_arguments (known 0) (Derive (TypeContiguous (pos 1) 0 None)) ≡ breach H1 0 (pos 0) ∷ []
typecontiguous_3 = refl

typevector_4 : wrong_arguments (known 0) (Derive (TypeVector (pos 1) (pos 2) (pos 1) 7 None)) ≡ []
typevector_4 = refl

typevector_5 : wrong_arguments (known 0) (Derive (TypeVector (negsuc 0) (pos 2) (pos 1) 7 None)) ≡ breach A1 0 (negsuc 0) ∷ []
typevector_5 = refl

typevector_6 : wrong_arguments (known 0) (Derive (TypeVector (pos 1) (negsuc 1) (pos 1) 7 None)) ≡ breach A5 0 (pos 0) ∷ []
typevector_6 = refl

typevector_7 : wrong_arguments (known 0) (Derive (TypeVector (pos 1) (pos 2) (pos 1) 65 None)) ≡ breach_with H2 0 4 (pos 65) ∷ []
typevector_7 = refl

typevector_8 : wrong_arguments (known 0) (Derive (TypeVector (pos 1) (pos 2) (pos 1) 0 None)) ≡ breach H1 0 (pos 0) ∷ []
typevector_8 = refl

typevector_9 : wrong_arguments (known 0) (Derive (TypeVector (negsuc 0) (negsuc 1) (pos 1) 0 None)) ≡ breach A1 0 (negsuc 0) ∷ breach A5 0 (pos 0) ∷ breach H1 0 (pos 0) ∷ []
typevector_9 = refl

typehvector_10 : wrong_arguments (known 0) (Derive (TypeHvector (pos 1) (pos 2) (pos 1) 7 None)) ≡ []
typehvector_10 = refl

typehvector_11 : wrong_arguments (known 0) (Derive (TypeHvector (negsuc 0) (pos 2) (pos 1) 7 None)) ≡ breach A1 0 (negsuc 0) ∷ []
typehvector_11 = refl

typehvector_12 : wrong_arguments (known 0) (Derive (TypeHvector (pos 1) (negsuc 1) (pos 1) 7 None)) ≡ breach A5 0 (pos 0) ∷ []
typehvector_12 = refl

typehvector_13 : wrong_arguments (known 0) (Derive (TypeHvector (pos 1) (pos 2) (pos 1) 65 None)) ≡ breach_with H2 0 4 (pos 65) ∷ []
typehvector_13 = refl

typehvector_14 : wrong_arguments (known 0) (Derive (TypeHvector (pos 1) (pos 2) (pos 1) 0 None)) ≡ breach H1 0 (pos 0) ∷ []
typehvector_14 = refl

typehvector_15 : wrong_arguments (known 0) (Derive (TypeHvector (pos 1) (negsuc 1) (pos 1) 0 None)) ≡ breach A5 0 (pos 0) ∷ breach H1 0 (pos 0) ∷ []
typehvector_15 = refl

typeindexed_16 : wrong_arguments (known 0) (Derive (TypeIndexed ((record { block = (pos 1); disp = (pos 0) }) ∷ (record { block = (pos 2); disp = (pos 8) }) ∷ []) 7 None)) ≡ []
typeindexed_16 = refl

typeindexed_17 : wrong_arguments (known 0) (Derive (TypeIndexed ((record { block = (pos 1); disp = (pos 0) }) ∷ (record { block = (negsuc 1); disp = (pos 8) }) ∷ []) 7 None)) ≡ breach A5 0 (pos 1) ∷ []
typeindexed_17 = refl

typeindexed_18 : wrong_arguments (known 0) (Derive (TypeIndexed ((record { block = (pos 1); disp = (pos 0) }) ∷ (record { block = (pos 2); disp = (pos 8) }) ∷ []) 65 None)) ≡ breach_with H2 0 4 (pos 65) ∷ []
typeindexed_18 = refl

typeindexed_19 : wrong_arguments (known 0) (Derive (TypeIndexed ((record { block = (pos 1); disp = (pos 0) }) ∷ (record { block = (pos 2); disp = (pos 8) }) ∷ []) 0 None)) ≡ breach H1 0 (pos 0) ∷ []
typeindexed_19 = refl

typehindexed_20 : wrong_arguments (known 0) (Derive (TypeHindexed ((record { block = (pos 1); disp = (pos 0) }) ∷ (record { block = (pos 2); disp = (pos 8) }) ∷ []) 7 None)) ≡ []
typehindexed_20 = refl

typehindexed_21 : wrong_arguments (known 0) (Derive (TypeHindexed ((record { block = (pos 1); disp = (pos 0) }) ∷ (record { block = (negsuc 1); disp = (pos 8) }) ∷ []) 7 None)) ≡ breach A5 0 (pos 1) ∷ []
typehindexed_21 = refl

typehindexed_22 : wrong_arguments (known 0) (Derive (TypeHindexed ((record { block = (pos 1); disp = (pos 0) }) ∷ (record { block = (pos 2); disp = (pos 8) }) ∷ []) 65 None)) ≡ breach_with H2 0 4 (pos 65) ∷ []
typehindexed_22 = refl

typehindexed_23 : wrong_arguments (known 0) (Derive (TypeHindexed ((record { block = (pos 1); disp = (pos 0) }) ∷ (record { block = (pos 2); disp = (pos 8) }) ∷ []) 0 None)) ≡ breach H1 0 (pos 0) ∷ []
typehindexed_23 = refl

typeindexedblock_24 : wrong_arguments (known 0) (Derive (TypeIndexedBlock (pos 2) ((pos 0) ∷ []) 7 None)) ≡ []
typeindexedblock_24 = refl

typeindexedblock_25 : wrong_arguments (known 0) (Derive (TypeIndexedBlock (negsuc 1) ((pos 0) ∷ []) 7 None)) ≡ breach A5 0 (pos 0) ∷ []
typeindexedblock_25 = refl

typeindexedblock_26 : wrong_arguments (known 0) (Derive (TypeIndexedBlock (pos 2) ((pos 0) ∷ []) 65 None)) ≡ breach_with H2 0 4 (pos 65) ∷ []
typeindexedblock_26 = refl

typeindexedblock_27 : wrong_arguments (known 0) (Derive (TypeIndexedBlock (pos 2) ((pos 0) ∷ []) 0 None)) ≡ breach H1 0 (pos 0) ∷ []
typeindexedblock_27 = refl

typehindexedblock_28 : wrong_arguments (known 0) (Derive (TypeHindexedBlock (pos 2) ((pos 0) ∷ []) 7 None)) ≡ []
typehindexedblock_28 = refl

typehindexedblock_29 : wrong_arguments (known 0) (Derive (TypeHindexedBlock (negsuc 1) ((pos 0) ∷ []) 7 None)) ≡ breach A5 0 (pos 0) ∷ []
typehindexedblock_29 = refl

typehindexedblock_30 : wrong_arguments (known 0) (Derive (TypeHindexedBlock (pos 2) ((pos 0) ∷ []) 65 None)) ≡ breach_with H2 0 4 (pos 65) ∷ []
typehindexedblock_30 = refl

typehindexedblock_31 : wrong_arguments (known 0) (Derive (TypeHindexedBlock (pos 2) ((pos 0) ∷ []) 0 None)) ≡ breach H1 0 (pos 0) ∷ []
typehindexedblock_31 = refl

typestruct_32 : wrong_arguments (known 0) (Derive (TypeStruct ((record { block = (pos 1); disp = (pos 0); old = 7 }) ∷ (record { block = (pos 2); disp = (pos 8); old = 66 }) ∷ []) None)) ≡ []
typestruct_32 = refl

typestruct_33 : wrong_arguments (known 0) (Derive (TypeStruct ((record { block = (negsuc 0); disp = (pos 0); old = 64 }) ∷ (record { block = (negsuc 1); disp = (pos 8); old = 7 }) ∷ []) None)) ≡ breach A5 0 (pos 0) ∷ []
typestruct_33 = refl

typestruct_34 : wrong_arguments (known 0) (Derive (TypeStruct ((record { block = (pos 1); disp = (pos 0); old = 65 }) ∷ (record { block = (negsuc 1); disp = (pos 8); old = 0 }) ∷ []) None)) ≡ breach A5 0 (pos 1) ∷ breach_with H2 0 4 (pos 65) ∷ breach H1 1 (pos 0) ∷ []
typestruct_34 = refl

typedup_35 : wrong_arguments (known 0) (Derive (TypeDup 7 None)) ≡ []
typedup_35 = refl

typedup_36 : wrong_arguments (known 0) (Derive (TypeDup 65 None)) ≡ breach_with H2 0 4 (pos 65) ∷ []
typedup_36 = refl

typedup_37 : wrong_arguments (known 0) (Derive (TypeDup 0 None)) ≡ breach H1 0 (pos 0) ∷ []
typedup_37 = refl

typeresized_38 : wrong_arguments (known 0) (Derive (TypeResized (pos 0) (pos 4) 7 None)) ≡ []
typeresized_38 = refl

typeresized_39 : wrong_arguments (known 0) (Derive (TypeResized (pos 0) (pos 4) 65 None)) ≡ breach_with H2 0 4 (pos 65) ∷ []
typeresized_39 = refl

typeresized_40 : wrong_arguments (known 0) (Derive (TypeResized (pos 0) (pos 4) 0 None)) ≡ breach H1 0 (pos 0) ∷ []
typeresized_40 = refl

typesubarray_41 : wrong_arguments (known 0) (Derive (TypeSubarray 0 ((record { size = (pos 4); subsize = (pos 2); start = (pos 1) }) ∷ []) 7 None)) ≡ []
typesubarray_41 = refl

typesubarray_42 : wrong_arguments (known 0) (Derive (TypeSubarray 0 ([]) 7 None)) ≡ breach A5 0 (pos 0) ∷ []
typesubarray_42 = refl

typesubarray_43 : wrong_arguments (known 0) (Derive (TypeSubarray 0 ((record { size = (pos 4); subsize = (pos 2); start = (pos 1) }) ∷ []) 65 None)) ≡ breach_with H2 0 4 (pos 65) ∷ []
typesubarray_43 = refl

typesubarray_44 : wrong_arguments (known 0) (Derive (TypeSubarray 0 ((record { size = (pos 4); subsize = (pos 2); start = (pos 1) }) ∷ []) 0 None)) ≡ breach H1 0 (pos 0) ∷ []
typesubarray_44 = refl

typecommit_45 : wrong_arguments (known 0) (Derive (TypeCommit 64)) ≡ []
typecommit_45 = refl

typecommit_46 : wrong_arguments (known 0) (Derive (TypeCommit 0)) ≡ breach H1 0 (pos 0) ∷ []
typecommit_46 = refl

typecommit_47 : wrong_arguments (known 0) (Derive (TypeCommit 65)) ≡ breach_with H2 0 4 (pos 65) ∷ []
typecommit_47 = refl

typefree_48 : wrong_arguments (known 0) (Derive (TypeFree 64)) ≡ []
typefree_48 = refl

typefree_49 : wrong_arguments (known 0) (Derive (TypeFree 0)) ≡ breach H1 0 (pos 0) ∷ []
typefree_49 = refl

typefree_50 : wrong_arguments (known 0) (Derive (TypeFree 65)) ≡ breach_with H2 0 4 (pos 65) ∷ []
typefree_50 = refl

typefree_51 : wrong_arguments (known 0) (Derive (TypeFree 31)) ≡ breach H3 0 (pos 31) ∷ []
typefree_51 = refl

opcreate_52 : wrong_arguments (known 0) (Object (OpCreate true None)) ≡ []
opcreate_52 = refl

opfree_53 : wrong_arguments (known 0) (Object (OpFree 64)) ≡ []
opfree_53 = refl

opfree_54 : wrong_arguments (known 0) (Object (OpFree 65)) ≡ breach_with H2 0 4 (pos 65) ∷ []
opfree_54 = refl

opfree_55 : wrong_arguments (known 0) (Object (OpFree 70)) ≡ breach H1 0 (pos 70) ∷ []
opfree_55 = refl

commgroup_56 : wrong_arguments (known 0) (Object (CommGroup 1 None)) ≡ []
commgroup_56 = refl

commgroup_57 : wrong_arguments (known 0) (Object (CommGroup 0 None)) ≡ breach H1 0 (pos 0) ∷ []
commgroup_57 = refl

commgroup_58 : wrong_arguments (known 0) (Object (CommGroup 65 None)) ≡ breach_with H2 0 4 (pos 65) ∷ []
commgroup_58 = refl

groupincl_59 : wrong_arguments (known 0) (Object (GroupIncl 64 ((pos 0) ∷ (pos 1) ∷ []) None)) ≡ []
groupincl_59 = refl

groupincl_60 : wrong_arguments (known 0) (Object (GroupIncl 65 ((pos 0) ∷ (pos 1) ∷ []) None)) ≡ breach_with H2 0 4 (pos 65) ∷ []
groupincl_60 = refl

groupincl_61 : wrong_arguments (known 0) (Object (GroupIncl 1 ((pos 0) ∷ (pos 1) ∷ []) None)) ≡ breach A6 0 (pos 0) ∷ []
groupincl_61 = refl

groupincl_62 : wrong_arguments (known 0) (Object (GroupIncl 0 ((pos 0) ∷ (pos 1) ∷ []) None)) ≡ breach H1 0 (pos 0) ∷ []
groupincl_62 = refl

groupexcl_63 : wrong_arguments (known 0) (Object (GroupExcl 64 ((pos 0) ∷ (pos 1) ∷ []) None)) ≡ []
groupexcl_63 = refl

groupexcl_64 : wrong_arguments (known 0) (Object (GroupExcl 65 ((pos 0) ∷ (pos 1) ∷ []) None)) ≡ breach_with H2 0 4 (pos 65) ∷ []
groupexcl_64 = refl

groupexcl_65 : wrong_arguments (known 0) (Object (GroupExcl 1 ((pos 0) ∷ (pos 1) ∷ []) None)) ≡ breach A6 0 (pos 0) ∷ []
groupexcl_65 = refl

groupexcl_66 : wrong_arguments (known 0) (Object (GroupExcl 0 ((pos 0) ∷ (pos 1) ∷ []) None)) ≡ breach H1 0 (pos 0) ∷ []
groupexcl_66 = refl

groupunion_67 : wrong_arguments (known 0) (Object (GroupUnion 64 64 None)) ≡ []
groupunion_67 = refl

groupunion_68 : wrong_arguments (known 0) (Object (GroupUnion 65 64 None)) ≡ breach_with H2 0 4 (pos 65) ∷ []
groupunion_68 = refl

groupunion_69 : wrong_arguments (known 0) (Object (GroupUnion 64 70 None)) ≡ breach H1 1 (pos 70) ∷ []
groupunion_69 = refl

groupintersection_70 : wrong_arguments (known 0) (Object (GroupIntersection 64 64 None)) ≡ []
groupintersection_70 = refl

groupintersection_71 : wrong_arguments (known 0) (Object (GroupIntersection 65 64 None)) ≡ breach_with H2 0 4 (pos 65) ∷ []
groupintersection_71 = refl

groupintersection_72 : wrong_arguments (known 0) (Object (GroupIntersection 64 70 None)) ≡ breach H1 1 (pos 70) ∷ []
groupintersection_72 = refl

groupintersection_73 : wrong_arguments (known 0) (Object (GroupIntersection 65 70 None)) ≡ breach_with H2 0 4 (pos 65) ∷ breach H1 1 (pos 70) ∷ []
groupintersection_73 = refl

groupdifference_74 : wrong_arguments (known 0) (Object (GroupDifference 64 64 None)) ≡ []
groupdifference_74 = refl

groupdifference_75 : wrong_arguments (known 0) (Object (GroupDifference 65 64 None)) ≡ breach_with H2 0 4 (pos 65) ∷ []
groupdifference_75 = refl

groupdifference_76 : wrong_arguments (known 0) (Object (GroupDifference 64 70 None)) ≡ breach H1 1 (pos 70) ∷ []
groupdifference_76 = refl

groupdifference_77 : wrong_arguments (known 0) (Object (GroupDifference 65 70 None)) ≡ breach_with H2 0 4 (pos 65) ∷ breach H1 1 (pos 70) ∷ []
groupdifference_77 = refl

groupfree_78 : wrong_arguments (known 0) (Object (GroupFree 64)) ≡ []
groupfree_78 = refl

groupfree_79 : wrong_arguments (known 0) (Object (GroupFree 65)) ≡ breach_with H2 0 4 (pos 65) ∷ []
groupfree_79 = refl

groupfree_80 : wrong_arguments (known 0) (Object (GroupFree 0)) ≡ breach H1 0 (pos 0) ∷ []
groupfree_80 = refl

commdup_81 : wrong_arguments (known 0) (Object (CommDup 1 None)) ≡ []
commdup_81 = refl

commdup_82 : wrong_arguments (known 0) (Object (CommDup 0 None)) ≡ breach H1 0 (pos 0) ∷ []
commdup_82 = refl

commdup_83 : wrong_arguments (known 0) (Object (CommDup 65 None)) ≡ breach_with H2 0 4 (pos 65) ∷ []
commdup_83 = refl

commsplit_84 : wrong_arguments (known 0) (Object (CommSplit 1 (pos 1) (pos 0) None)) ≡ []
commsplit_84 = refl

commsplit_85 : wrong_arguments (known 0) (Object (CommSplit 0 (pos 1) (pos 0) None)) ≡ breach H1 0 (pos 0) ∷ []
commsplit_85 = refl

commsplit_86 : wrong_arguments (known 0) (Object (CommSplit 65 (pos 1) (pos 0) None)) ≡ breach_with H2 0 4 (pos 65) ∷ []
commsplit_86 = refl

commsplit_87 : wrong_arguments (known 0) (Object (CommSplit 1 (negsuc 1) (pos 0) None)) ≡ breach A7 0 (negsuc 1) ∷ []
commsplit_87 = refl

commcreate_88 : wrong_arguments (known 0) (Object (CommCreate 1 64 None)) ≡ []
commcreate_88 = refl

commcreate_89 : wrong_arguments (known 0) (Object (CommCreate 0 64 None)) ≡ breach H1 0 (pos 0) ∷ []
commcreate_89 = refl

commcreate_90 : wrong_arguments (known 0) (Object (CommCreate 65 64 None)) ≡ breach_with H2 0 4 (pos 65) ∷ []
commcreate_90 = refl

commcreate_91 : wrong_arguments (known 0) (Object (CommCreate 1 65 None)) ≡ breach_with H2 1 4 (pos 65) ∷ []
commcreate_91 = refl

commcreate_92 : wrong_arguments (known 0) (Object (CommCreate 1 0 None)) ≡ breach H1 1 (pos 0) ∷ []
commcreate_92 = refl

commfree_93 : wrong_arguments (known 0) (Object (CommFree 64)) ≡ []
commfree_93 = refl

commfree_94 : wrong_arguments (known 0) (Object (CommFree 0)) ≡ breach H1 0 (pos 0) ∷ []
commfree_94 = refl

commfree_95 : wrong_arguments (known 0) (Object (CommFree 65)) ≡ breach_with H2 0 4 (pos 65) ∷ []
commfree_95 = refl

commfree_96 : wrong_arguments (known 0) (Object (CommFree 2)) ≡ breach H3 0 (pos 2) ∷ []
commfree_96 = refl
