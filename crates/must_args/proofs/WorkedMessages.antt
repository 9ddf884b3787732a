-- Worked calls of each kind, with what the rules A1 to A7 and H1 to H4 find in them: a breach of each rule that the kind can break at each
-- part, a call that breaks none at two positions, and one that breaks several. Another program, written from the texts of the rules alone,
-- worked out what is found.
use Rattle.std.proofs.Common.{◌≡◌, ℕ, ◌==◌, pos, negsuc, ◌||◌, [], ◌∷◌, Some, None, refl, nat_lt, cond}
use Rattle.must_call.specs.declared.life.Life.TheVariants.{Never, Live, Freed, Predefined}
use Rattle.must_call.specs.declared.body.Body.TheVariants.{Frame, Point, Finish, Persist}
use Rattle.must_call.specs.declared.frame.Frame.TheVariants.{Init, Finalize}
use Rattle.must_call.specs.declared.point.Point.TheVariants.{Send, Ssend, Bsend, Rsend, Recv, Sendrecv, Probe, Iprobe, Isend, Issend, Ibsend, Irsend, Irecv}
use Rattle.must_call.specs.declared.finish.Finish.TheVariants.{Wait, Waitall, Waitany, Waitsome, Test, Testall, Testany, Testsome, RequestFree, Cancel}
use Rattle.must_call.specs.declared.persist.Persist.TheVariants.{SendInit, SsendInit, RecvInit, Start, Startall}
use Rattle.must_find.specs.declared.rule.Rule.TheVariants.{A1, A2, A3, H1, H2, H4}
use Rattle.must_rules.specs.Facts.{Facts}
use Rattle.must_rules.specs.Breaches.{breach, breach_with}
use Rattle.must_rules.specs.Clear.{wrong_arguments}

-- Datatypes 64 (not committed) and 66 (committed) are live, as all other handles of these numbers; 65 was freed. Communicator 1 has three
-- members, of which this rank is at the given position, and 64 has two; group 64 has two, and 66 isn't sound.
abbrev known : ℕ → Facts
known p = record {
  tag_ub = pos 40000;
  life = λ class n. cond (n == 0) Never (cond (nat_lt n 64) Predefined (cond (n == 64) (Live 1) (cond (n == 65) (Freed 2 4) (cond (n == 66) (Live 3) Never))));
  committed = λ n. nat_lt n 64 || (n == 66);
  comm = λ n. cond (n == 1) (Some (record { members = 0 ∷ 1 ∷ 2 ∷ []; position = p })) (cond (n == 64) (Some (record { members = 2 ∷ 0 ∷ []; position = 1 })) None);
  group = λ n. cond (n == 64) (Some (2 ∷ 0 ∷ [])) (cond (n == 1) (Some []) None);
}

init_0 : wrong_arguments (known 0) (Frame Init) ≡ []
init_0 = refl

finalize_1 : wrong_arguments (known 0) (Frame Finalize) ≡ []
finalize_1 = refl

send_2 : wrong_arguments (known 0) (Point (Send 4096 (pos 1) 7 (pos 1) (pos 5) 1)) ≡ []
send_2 = refl

send_3 : wrong_arguments (known 0) (Point (Send 4096 (negsuc 0) 7 (pos 1) (pos 5) 1)) ≡ breach A1 0 (negsuc 0) ∷ []
send_3 = refl

send_4 : wrong_arguments (known 0) (Point (Send 4096 (pos 1) 0 (pos 1) (pos 5) 1)) ≡ breach H1 0 (pos 0) ∷ []
send_4 = refl

send_5 : wrong_arguments (known 0) (Point (Send 4096 (pos 1) 65 (pos 1) (pos 5) 1)) ≡ breach_with H2 0 4 (pos 65) ∷ []
send_5 = refl

send_6 : wrong_arguments (known 0) (Point (Send 4096 (pos 1) 64 (pos 1) (pos 5) 1)) ≡ breach_with H4 0 1 (pos 64) ∷ []
send_6 = refl

send_7 : wrong_arguments (known 0) (Point (Send 4096 (pos 1) 7 (pos 3) (pos 5) 1)) ≡ breach A2 0 (pos 3) ∷ []
send_7 = refl

send_8 : wrong_arguments (known 0) (Point (Send 4096 (pos 1) 7 (pos 1) (pos 40001) 1)) ≡ breach A3 0 (pos 40001) ∷ []
send_8 = refl

send_9 : wrong_arguments (known 0) (Point (Send 4096 (pos 1) 7 (pos 1) (pos 5) 0)) ≡ breach H1 1 (pos 0) ∷ []
send_9 = refl

send_10 : wrong_arguments (known 0) (Point (Send 4096 (pos 1) 7 (pos 1) (pos 5) 65)) ≡ breach_with H2 1 4 (pos 65) ∷ []
send_10 = refl

send_11 : wrong_arguments (known 0) (Point (Send 4096 (negsuc 0) 7 (pos 1) (pos 40001) 64)) ≡ breach A1 0 (negsuc 0) ∷ breach A3 0 (pos 40001) ∷ []
send_11 = refl

ssend_12 : wrong_arguments (known 0) (Point (Ssend 4096 (pos 1) 7 (pos 1) (pos 5) 1)) ≡ []
ssend_12 = refl

ssend_13 : wrong_arguments (known 0) (Point (Ssend 4096 (negsuc 0) 7 (pos 1) (pos 5) 1)) ≡ breach A1 0 (negsuc 0) ∷ []
ssend_13 = refl

ssend_14 : wrong_arguments (known 0) (Point (Ssend 4096 (pos 1) 0 (pos 1) (pos 5) 1)) ≡ breach H1 0 (pos 0) ∷ []
ssend_14 = refl

ssend_15 : wrong_arguments (known 0) (Point (Ssend 4096 (pos 1) 65 (pos 1) (pos 5) 1)) ≡ breach_with H2 0 4 (pos 65) ∷ []
ssend_15 = refl

ssend_16 : wrong_arguments (known 0) (Point (Ssend 4096 (pos 1) 64 (pos 1) (pos 5) 1)) ≡ breach_with H4 0 1 (pos 64) ∷ []
ssend_16 = refl

ssend_17 : wrong_arguments (known 0) (Point (Ssend 4096 (pos 1) 7 (pos 3) (pos 5) 1)) ≡ breach A2 0 (pos 3) ∷ []
ssend_17 = refl

ssend_18 : wrong_arguments (known 0) (Point (Ssend 4096 (pos 1) 7 (pos 1) (pos 40001) 1)) ≡ breach A3 0 (pos 40001) ∷ []
ssend_18 = refl

ssend_19 : wrong_arguments (known 0) (Point (Ssend 4096 (pos 1) 7 (pos 1) (pos 5) 0)) ≡ breach H1 1 (pos 0) ∷ []
ssend_19 = refl

ssend_20 : wrong_arguments (known 0) (Point (Ssend 4096 (pos 1) 7 (pos 1) (pos 5) 65)) ≡ breach_with H2 1 4 (pos 65) ∷ []
ssend_20 = refl

ssend_21 : wrong_arguments (known 0) (Point (Ssend 4096 (negsuc 0) 0 (pos 3) (pos 5) 65)) ≡ breach A1 0 (negsuc 0) ∷ breach H1 0 (pos 0) ∷ breach_with H2 1 4 (pos 65) ∷ []
ssend_21 = refl

bsend_22 : wrong_arguments (known 0) (Point (Bsend 4096 (pos 1) 7 (pos 1) (pos 5) 1)) ≡ []
bsend_22 = refl

bsend_23 : wrong_arguments (known 0) (Point (Bsend 4096 (negsuc 0) 7 (pos 1) (pos 5) 1)) ≡ breach A1 0 (negsuc 0) ∷ []
bsend_23 = refl

bsend_24 : wrong_arguments (known 0) (Point (Bsend 4096 (pos 1) 0 (pos 1) (pos 5) 1)) ≡ breach H1 0 (pos 0) ∷ []
bsend_24 = refl

bsend_25 : wrong_arguments (known 0) (Point (Bsend 4096 (pos 1) 65 (pos 1) (pos 5) 1)) ≡ breach_with H2 0 4 (pos 65) ∷ []
bsend_25 = refl

bsend_26 : wrong_arguments (known 0) (Point (Bsend 4096 (pos 1) 64 (pos 1) (pos 5) 1)) ≡ breach_with H4 0 1 (pos 64) ∷ []
bsend_26 = refl

bsend_27 : wrong_arguments (known 0) (Point (Bsend 4096 (pos 1) 7 (pos 3) (pos 5) 1)) ≡ breach A2 0 (pos 3) ∷ []
bsend_27 = refl

bsend_28 : wrong_arguments (known 0) (Point (Bsend 4096 (pos 1) 7 (pos 1) (pos 40001) 1)) ≡ breach A3 0 (pos 40001) ∷ []
bsend_28 = refl

bsend_29 : wrong_arguments (known 0) (Point (Bsend 4096 (pos 1) 7 (pos 1) (pos 5) 0)) ≡ breach H1 1 (pos 0) ∷ []
bsend_29 = refl

bsend_30 : wrong_arguments (known 0) (Point (Bsend 4096 (pos 1) 7 (pos 1) (pos 5) 65)) ≡ breach_with H2 1 4 (pos 65) ∷ []
bsend_30 = refl

bsend_31 : wrong_arguments (known 0) (Point (Bsend 4096 (pos 0) 31 (pos 1) (negsuc 1) 65)) ≡ breach A3 0 (negsuc 1) ∷ breach_with H2 1 4 (pos 65) ∷ []
bsend_31 = refl

rsend_32 : wrong_arguments (known 0) (Point (Rsend 4096 (pos 1) 7 (pos 1) (pos 5) 1)) ≡ []
rsend_32 = refl

rsend_33 : wrong_arguments (known 0) (Point (Rsend 4096 (negsuc 0) 7 (pos 1) (pos 5) 1)) ≡ breach A1 0 (negsuc 0) ∷ []
rsend_33 = refl

rsend_34 : wrong_arguments (known 0) (Point (Rsend 4096 (pos 1) 0 (pos 1) (pos 5) 1)) ≡ breach H1 0 (pos 0) ∷ []
rsend_34 = refl

rsend_35 : wrong_arguments (known 0) (Point (Rsend 4096 (pos 1) 65 (pos 1) (pos 5) 1)) ≡ breach_with H2 0 4 (pos 65) ∷ []
rsend_35 = refl

rsend_36 : wrong_arguments (known 0) (Point (Rsend 4096 (pos 1) 64 (pos 1) (pos 5) 1)) ≡ breach_with H4 0 1 (pos 64) ∷ []
rsend_36 = refl

rsend_37 : wrong_arguments (known 0) (Point (Rsend 4096 (pos 1) 7 (pos 3) (pos 5) 1)) ≡ breach A2 0 (pos 3) ∷ []
rsend_37 = refl

rsend_38 : wrong_arguments (known 0) (Point (Rsend 4096 (pos 1) 7 (pos 1) (pos 40001) 1)) ≡ breach A3 0 (pos 40001) ∷ []
rsend_38 = refl

rsend_39 : wrong_arguments (known 0) (Point (Rsend 4096 (pos 1) 7 (pos 1) (pos 5) 0)) ≡ breach H1 1 (pos 0) ∷ []
rsend_39 = refl

rsend_40 : wrong_arguments (known 0) (Point (Rsend 4096 (pos 1) 7 (pos 1) (pos 5) 65)) ≡ breach_with H2 1 4 (pos 65) ∷ []
rsend_40 = refl

rsend_41 : wrong_arguments (known 0) (Point (Rsend 4096 (negsuc 0) 7 (pos 1) (negsuc 0) 0)) ≡ breach A1 0 (negsuc 0) ∷ breach A3 0 (negsuc 0) ∷ breach H1 1 (pos 0) ∷ []
rsend_41 = refl

recv_42 : wrong_arguments (known 0) (Point (Recv 4096 (pos 1) 7 (pos 1) (pos 5) 1 None)) ≡ []
recv_42 = refl

recv_43 : wrong_arguments (known 0) (Point (Recv 4096 (negsuc 0) 7 (pos 1) (pos 5) 1 None)) ≡ breach A1 0 (negsuc 0) ∷ []
recv_43 = refl

recv_44 : wrong_arguments (known 0) (Point (Recv 4096 (pos 1) 0 (pos 1) (pos 5) 1 None)) ≡ breach H1 0 (pos 0) ∷ []
recv_44 = refl

recv_45 : wrong_arguments (known 0) (Point (Recv 4096 (pos 1) 65 (pos 1) (pos 5) 1 None)) ≡ breach_with H2 0 4 (pos 65) ∷ []
recv_45 = refl

recv_46 : wrong_arguments (known 0) (Point (Recv 4096 (pos 1) 64 (pos 1) (pos 5) 1 None)) ≡ breach_with H4 0 1 (pos 64) ∷ []
recv_46 = refl

recv_47 : wrong_arguments (known 0) (Point (Recv 4096 (pos 1) 7 (pos 3) (pos 5) 1 None)) ≡ breach A2 0 (pos 3) ∷ []
recv_47 = refl

recv_48 : wrong_arguments (known 0) (Point (Recv 4096 (pos 1) 7 (pos 1) (pos 40001) 1 None)) ≡ breach A3 0 (pos 40001) ∷ []
recv_48 = refl

recv_49 : wrong_arguments (known 0) (Point (Recv 4096 (pos 1) 7 (pos 1) (pos 5) 0 None)) ≡ breach H1 1 (pos 0) ∷ []
recv_49 = refl

recv_50 : wrong_arguments (known 0) (Point (Recv 4096 (pos 1) 7 (pos 1) (pos 5) 65 None)) ≡ breach_with H2 1 4 (pos 65) ∷ []
recv_50 = refl

sendrecv_51 : wrong_arguments (known 0) (Point (Sendrecv 4096 (pos 1) 7 (pos 1) (pos 5) 8192 (pos 1) 7 (pos 1) (pos 5) 1 None)) ≡ []
sendrecv_51 = refl

sendrecv_52 : wrong_arguments (known 0) (Point (Sendrecv 4096 (negsuc 2) 7 (pos 1) (pos 5) 8192 (pos 1) 7 (pos 1) (pos 5) 1 None)) ≡ breach A1 0 (negsuc 2) ∷ []
sendrecv_52 = refl

sendrecv_53 : wrong_arguments (known 0) (Point (Sendrecv 4096 (pos 1) 65 (pos 1) (pos 5) 8192 (pos 1) 7 (pos 1) (pos 5) 1 None)) ≡ breach_with H2 0 4 (pos 65) ∷ []
sendrecv_53 = refl

sendrecv_54 : wrong_arguments (known 0) (Point (Sendrecv 4096 (pos 1) 64 (pos 1) (pos 5) 8192 (pos 1) 7 (pos 1) (pos 5) 1 None)) ≡ breach_with H4 0 1 (pos 64) ∷ []
sendrecv_54 = refl

sendrecv_55 : wrong_arguments (known 0) (Point (Sendrecv 4096 (pos 1) 0 (pos 1) (pos 5) 8192 (pos 1) 7 (pos 1) (pos 5) 1 None)) ≡ breach H1 0 (pos 0) ∷ []
sendrecv_55 = refl

sendrecv_56 : wrong_arguments (known 0) (Point (Sendrecv 4096 (pos 1) 7 (pos 3) (pos 5) 8192 (pos 1) 7 (pos 1) (pos 5) 1 None)) ≡ breach A2 0 (pos 3) ∷ []
sendrecv_56 = refl

sendrecv_57 : wrong_arguments (known 0) (Point (Sendrecv 4096 (pos 1) 7 (pos 1) (negsuc 0) 8192 (pos 1) 7 (pos 1) (pos 5) 1 None)) ≡ breach A3 0 (negsuc 0) ∷ []
sendrecv_57 = refl

sendrecv_58 : wrong_arguments (known 0) (Point (Sendrecv 4096 (pos 1) 7 (pos 1) (pos 5) 8192 (negsuc 3) 7 (pos 1) (pos 5) 1 None)) ≡ breach A1 1 (negsuc 3) ∷ []
sendrecv_58 = refl

sendrecv_59 : wrong_arguments (known 0) (Point (Sendrecv 4096 (pos 1) 7 (pos 1) (pos 5) 8192 (pos 1) 65 (pos 1) (pos 5) 1 None)) ≡ breach_with H2 1 4 (pos 65) ∷ []
sendrecv_59 = refl

sendrecv_60 : wrong_arguments (known 0) (Point (Sendrecv 4096 (pos 1) 7 (pos 1) (pos 5) 8192 (pos 1) 64 (pos 1) (pos 5) 1 None)) ≡ breach_with H4 1 1 (pos 64) ∷ []
sendrecv_60 = refl

sendrecv_61 : wrong_arguments (known 0) (Point (Sendrecv 4096 (pos 1) 7 (pos 1) (pos 5) 8192 (pos 1) 70 (pos 1) (pos 5) 1 None)) ≡ breach H1 1 (pos 70) ∷ []
sendrecv_61 = refl

sendrecv_62 : wrong_arguments (known 0) (Point (Sendrecv 4096 (pos 1) 7 (pos 1) (pos 5) 8192 (pos 1) 7 (pos 3) (pos 5) 1 None)) ≡ breach A2 1 (pos 3) ∷ []
sendrecv_62 = refl

sendrecv_63 : wrong_arguments (known 0) (Point (Sendrecv 4096 (pos 1) 7 (pos 1) (pos 5) 8192 (pos 1) 7 (pos 1) (pos 40001) 1 None)) ≡ breach A3 1 (pos 40001) ∷ []
sendrecv_63 = refl

sendrecv_64 : wrong_arguments (known 0) (Point (Sendrecv 4096 (pos 1) 7 (pos 1) (pos 5) 8192 (pos 1) 7 (pos 1) (pos 5) 0 None)) ≡ breach H1 2 (pos 0) ∷ []
sendrecv_64 = refl

sendrecv_65 : wrong_arguments (known 0) (Point (Sendrecv 4096 (pos 1) 7 (pos 1) (pos 5) 8192 (pos 1) 7 (pos 1) (pos 5) 65 None)) ≡ breach_with H2 2 4 (pos 65) ∷ []
sendrecv_65 = refl

sendrecv_66 : wrong_arguments (known 0) (Point (Sendrecv 4096 (pos 1) 0 (pos 1) (negsuc 0) 8192 (negsuc 3) 70 (negsuc 1) (negsuc 0) 1 None)) ≡ breach H1 0 (pos 0) ∷ breach A3 0 (negsuc 0) ∷ breach A1 1 (negsuc 3) ∷ breach H1 1 (pos 70) ∷ []
sendrecv_66 = refl

probe_67 : wrong_arguments (known 0) (Point (Probe (pos 1) (pos 5) 1 None)) ≡ []
probe_67 = refl

probe_68 : wrong_arguments (known 0) (Point (Probe (pos 3) (pos 5) 1 None)) ≡ breach A2 0 (pos 3) ∷ []
probe_68 = refl

probe_69 : wrong_arguments (known 0) (Point (Probe (pos 1) (pos 40001) 1 None)) ≡ breach A3 0 (pos 40001) ∷ []
probe_69 = refl

probe_70 : wrong_arguments (known 0) (Point (Probe (pos 1) (pos 5) 0 None)) ≡ breach H1 0 (pos 0) ∷ []
probe_70 = refl

probe_71 : wrong_arguments (known 0) (Point (Probe (pos 1) (pos 5) 65 None)) ≡ breach_with H2 0 4 (pos 65) ∷ []
probe_71 = refl

probe_72 : wrong_arguments (known 0) (Point (Probe (negsuc 2) (negsuc 1) 70 None)) ≡ breach A3 0 (negsuc 1) ∷ breach H1 0 (pos 70) ∷ []
probe_72 = refl

iprobe_73 : wrong_arguments (known 0) (Point (Iprobe (pos 1) (pos 5) 1 None)) ≡ []
iprobe_73 = refl

iprobe_74 : wrong_arguments (known 0) (Point (Iprobe (pos 3) (pos 5) 1 None)) ≡ breach A2 0 (pos 3) ∷ []
iprobe_74 = refl

iprobe_75 : wrong_arguments (known 0) (Point (Iprobe (pos 1) (pos 40001) 1 None)) ≡ breach A3 0 (pos 40001) ∷ []
iprobe_75 = refl

iprobe_76 : wrong_arguments (known 0) (Point (Iprobe (pos 1) (pos 5) 0 None)) ≡ breach H1 0 (pos 0) ∷ []
iprobe_76 = refl

iprobe_77 : wrong_arguments (known 0) (Point (Iprobe (pos 1) (pos 5) 65 None)) ≡ breach_with H2 0 4 (pos 65) ∷ []
iprobe_77 = refl

isend_78 : wrong_arguments (known 0) (Point (Isend 4096 (pos 1) 7 (pos 1) (pos 5) 1 None)) ≡ []
isend_78 = refl

isend_79 : wrong_arguments (known 0) (Point (Isend 4096 (negsuc 0) 7 (pos 1) (pos 5) 1 None)) ≡ breach A1 0 (negsuc 0) ∷ []
isend_79 = refl

isend_80 : wrong_arguments (known 0) (Point (Isend 4096 (pos 1) 0 (pos 1) (pos 5) 1 None)) ≡ breach H1 0 (pos 0) ∷ []
isend_80 = refl

isend_81 : wrong_arguments (known 0) (Point (Isend 4096 (pos 1) 65 (pos 1) (pos 5) 1 None)) ≡ breach_with H2 0 4 (pos 65) ∷ []
isend_81 = refl

isend_82 : wrong_arguments (known 0) (Point (Isend 4096 (pos 1) 64 (pos 1) (pos 5) 1 None)) ≡ breach_with H4 0 1 (pos 64) ∷ []
isend_82 = refl

isend_83 : wrong_arguments (known 0) (Point (Isend 4096 (pos 1) 7 (pos 3) (pos 5) 1 None)) ≡ breach A2 0 (pos 3) ∷ []
isend_83 = refl

isend_84 : wrong_arguments (known 0) (Point (Isend 4096 (pos 1) 7 (pos 1) (pos 40001) 1 None)) ≡ breach A3 0 (pos 40001) ∷ []
isend_84 = refl

isend_85 : wrong_arguments (known 0) (Point (Isend 4096 (pos 1) 7 (pos 1) (pos 5) 0 None)) ≡ breach H1 1 (pos 0) ∷ []
isend_85 = refl

isend_86 : wrong_arguments (known 0) (Point (Isend 4096 (pos 1) 7 (pos 1) (pos 5) 65 None)) ≡ breach_with H2 1 4 (pos 65) ∷ []
isend_86 = refl

isend_87 : wrong_arguments (known 0) (Point (Isend 4096 (negsuc 0) 31 (pos 1) (negsuc 1) 70 None)) ≡ breach A1 0 (negsuc 0) ∷ breach A3 0 (negsuc 1) ∷ breach H1 1 (pos 70) ∷ []
isend_87 = refl

issend_88 : wrong_arguments (known 0) (Point (Issend 4096 (pos 1) 7 (pos 1) (pos 5) 1 None)) ≡ []
issend_88 = refl

issend_89 : wrong_arguments (known 0) (Point (Issend 4096 (negsuc 0) 7 (pos 1) (pos 5) 1 None)) ≡ breach A1 0 (negsuc 0) ∷ []
issend_89 = refl

issend_90 : wrong_arguments (known 0) (Point (Issend 4096 (pos 1) 0 (pos 1) (pos 5) 1 None)) ≡ breach H1 0 (pos 0) ∷ []
issend_90 = refl

issend_91 : wrong_arguments (known 0) (Point (Issend 4096 (pos 1) 65 (pos 1) (pos 5) 1 None)) ≡ breach_with H2 0 4 (pos 65) ∷ []
issend_91 = refl

issend_92 : wrong_arguments (known 0) (Point (Issend 4096 (pos 1) 64 (pos 1) (pos 5) 1 None)) ≡ breach_with H4 0 1 (pos 64) ∷ []
issend_92 = refl

issend_93 : wrong_arguments (known 0) (Point (Issend 4096 (pos 1) 7 (pos 3) (pos 5) 1 None)) ≡ breach A2 0 (pos 3) ∷ []
issend_93 = refl

issend_94 : wrong_arguments (known 0) (Point (Issend 4096 (pos 1) 7 (pos 1) (pos 40001) 1 None)) ≡ breach A3 0 (pos 40001) ∷ []
issend_94 = refl

issend_95 : wrong_arguments (known 0) (Point (Issend 4096 (pos 1) 7 (pos 1) (pos 5) 0 None)) ≡ breach H1 1 (pos 0) ∷ []
issend_95 = refl

issend_96 : wrong_arguments (known 0) (Point (Issend 4096 (pos 1) 7 (pos 1) (pos 5) 65 None)) ≡ breach_with H2 1 4 (pos 65) ∷ []
issend_96 = refl

issend_97 : wrong_arguments (known 0) (Point (Issend 4096 (pos 0) 66 (negsuc 1) (negsuc 0) 0 None)) ≡ breach A3 0 (negsuc 0) ∷ breach H1 1 (pos 0) ∷ []
issend_97 = refl

ibsend_98 : wrong_arguments (known 0) (Point (Ibsend 4096 (pos 1) 7 (pos 1) (pos 5) 1 None)) ≡ []
ibsend_98 = refl

ibsend_99 : wrong_arguments (known 0) (Point (Ibsend 4096 (negsuc 0) 7 (pos 1) (pos 5) 1 None)) ≡ breach A1 0 (negsuc 0) ∷ []
ibsend_99 = refl

ibsend_100 : wrong_arguments (known 0) (Point (Ibsend 4096 (pos 1) 0 (pos 1) (pos 5) 1 None)) ≡ breach H1 0 (pos 0) ∷ []
ibsend_100 = refl

ibsend_101 : wrong_arguments (known 0) (Point (Ibsend 4096 (pos 1) 65 (pos 1) (pos 5) 1 None)) ≡ breach_with H2 0 4 (pos 65) ∷ []
ibsend_101 = refl

ibsend_102 : wrong_arguments (known 0) (Point (Ibsend 4096 (pos 1) 64 (pos 1) (pos 5) 1 None)) ≡ breach_with H4 0 1 (pos 64) ∷ []
ibsend_102 = refl

ibsend_103 : wrong_arguments (known 0) (Point (Ibsend 4096 (pos 1) 7 (pos 3) (pos 5) 1 None)) ≡ breach A2 0 (pos 3) ∷ []
ibsend_103 = refl

ibsend_104 : wrong_arguments (known 0) (Point (Ibsend 4096 (pos 1) 7 (pos 1) (pos 40001) 1 None)) ≡ breach A3 0 (pos 40001) ∷ []
ibsend_104 = refl

ibsend_105 : wrong_arguments (known 0) (Point (Ibsend 4096 (pos 1) 7 (pos 1) (pos 5) 0 None)) ≡ breach H1 1 (pos 0) ∷ []
ibsend_105 = refl

ibsend_106 : wrong_arguments (known 0) (Point (Ibsend 4096 (pos 1) 7 (pos 1) (pos 5) 65 None)) ≡ breach_with H2 1 4 (pos 65) ∷ []
ibsend_106 = refl

ibsend_107 : wrong_arguments (known 0) (Point (Ibsend 4096 (pos 1) 7 (pos 3) (negsuc 1) 1 None)) ≡ breach A2 0 (pos 3) ∷ breach A3 0 (negsuc 1) ∷ []
ibsend_107 = refl

irsend_108 : wrong_arguments (known 0) (Point (Irsend 4096 (pos 1) 7 (pos 1) (pos 5) 1 None)) ≡ []
irsend_108 = refl

irsend_109 : wrong_arguments (known 0) (Point (Irsend 4096 (negsuc 0) 7 (pos 1) (pos 5) 1 None)) ≡ breach A1 0 (negsuc 0) ∷ []
irsend_109 = refl

irsend_110 : wrong_arguments (known 0) (Point (Irsend 4096 (pos 1) 0 (pos 1) (pos 5) 1 None)) ≡ breach H1 0 (pos 0) ∷ []
irsend_110 = refl

irsend_111 : wrong_arguments (known 0) (Point (Irsend 4096 (pos 1) 65 (pos 1) (pos 5) 1 None)) ≡ breach_with H2 0 4 (pos 65) ∷ []
irsend_111 = refl

irsend_112 : wrong_arguments (known 0) (Point (Irsend 4096 (pos 1) 64 (pos 1) (pos 5) 1 None)) ≡ breach_with H4 0 1 (pos 64) ∷ []
irsend_112 = refl

irsend_113 : wrong_arguments (known 0) (Point (Irsend 4096 (pos 1) 7 (pos 3) (pos 5) 1 None)) ≡ breach A2 0 (pos 3) ∷ []
irsend_113 = refl

irsend_114 : wrong_arguments (known 0) (Point (Irsend 4096 (pos 1) 7 (pos 1) (pos 40001) 1 None)) ≡ breach A3 0 (pos 40001) ∷ []
irsend_114 = refl

irsend_115 : wrong_arguments (known 0) (Point (Irsend 4096 (pos 1) 7 (pos 1) (pos 5) 0 None)) ≡ breach H1 1 (pos 0) ∷ []
irsend_115 = refl

irsend_116 : wrong_arguments (known 0) (Point (Irsend 4096 (pos 1) 7 (pos 1) (pos 5) 65 None)) ≡ breach_with H2 1 4 (pos 65) ∷ []
irsend_116 = refl

irsend_117 : wrong_arguments (known 0) (Point (Irsend 4096 (negsuc 0) 0 (pos 1) (negsuc 0) 1 None)) ≡ breach A1 0 (negsuc 0) ∷ breach H1 0 (pos 0) ∷ breach A3 0 (negsuc 0) ∷ []
irsend_117 = refl

irecv_118 : wrong_arguments (known 0) (Point (Irecv 4096 (pos 1) 7 (pos 1) (pos 5) 1 None)) ≡ []
irecv_118 = refl

irecv_119 : wrong_arguments (known 0) (Point (Irecv 4096 (negsuc 0) 7 (pos 1) (pos 5) 1 None)) ≡ breach A1 0 (negsuc 0) ∷ []
irecv_119 = refl

irecv_120 : wrong_arguments (known 0) (Point (Irecv 4096 (pos 1) 0 (pos 1) (pos 5) 1 None)) ≡ breach H1 0 (pos 0) ∷ []
irecv_120 = refl

irecv_121 : wrong_arguments (known 0) (Point (Irecv 4096 (pos 1) 65 (pos 1) (pos 5) 1 None)) ≡ breach_with H2 0 4 (pos 65) ∷ []
irecv_121 = refl

irecv_122 : wrong_arguments (known 0) (Point (Irecv 4096 (pos 1) 64 (pos 1) (pos 5) 1 None)) ≡ breach_with H4 0 1 (pos 64) ∷ []
irecv_122 = refl

irecv_123 : wrong_arguments (known 0) (Point (Irecv 4096 (pos 1) 7 (pos 3) (pos 5) 1 None)) ≡ breach A2 0 (pos 3) ∷ []
irecv_123 = refl

irecv_124 : wrong_arguments (known 0) (Point (Irecv 4096 (pos 1) 7 (pos 1) (pos 40001) 1 None)) ≡ breach A3 0 (pos 40001) ∷ []
irecv_124 = refl

irecv_125 : wrong_arguments (known 0) (Point (Irecv 4096 (pos 1) 7 (pos 1) (pos 5) 0 None)) ≡ breach H1 1 (pos 0) ∷ []
irecv_125 = refl

irecv_126 : wrong_arguments (known 0) (Point (Irecv 4096 (pos 1) 7 (pos 1) (pos 5) 65 None)) ≡ breach_with H2 1 4 (pos 65) ∷ []
irecv_126 = refl

irecv_127 : wrong_arguments (known 0) (Point (Irecv 4096 (pos 1) 7 (negsuc 2) (pos 40001) 1 None)) ≡ breach A2 0 (negsuc 2) ∷ breach A3 0 (pos 40001) ∷ []
irecv_127 = refl

wait_128 : wrong_arguments (known 0) (Finish (Wait 64 None)) ≡ []
wait_128 = refl

wait_129 : wrong_arguments (known 0) (Finish (Wait 65 None)) ≡ breach_with H2 0 4 (pos 65) ∷ []
wait_129 = refl

wait_130 : wrong_arguments (known 0) (Finish (Wait 70 None)) ≡ breach H1 0 (pos 70) ∷ []
wait_130 = refl

waitall_131 : wrong_arguments (known 0) (Finish (Waitall (64 ∷ 66 ∷ []) None)) ≡ []
waitall_131 = refl

waitall_132 : wrong_arguments (known 0) (Finish (Waitall (64 ∷ 65 ∷ 0 ∷ 70 ∷ []) None)) ≡ breach_with H2 1 4 (pos 65) ∷ breach H1 3 (pos 70) ∷ []
waitall_132 = refl

waitany_133 : wrong_arguments (known 0) (Finish (Waitany (64 ∷ 66 ∷ []) None)) ≡ []
waitany_133 = refl

waitany_134 : wrong_arguments (known 0) (Finish (Waitany (64 ∷ 65 ∷ 0 ∷ 70 ∷ []) None)) ≡ breach_with H2 1 4 (pos 65) ∷ breach H1 3 (pos 70) ∷ []
waitany_134 = refl

waitsome_135 : wrong_arguments (known 0) (Finish (Waitsome (64 ∷ 66 ∷ []) None)) ≡ []
waitsome_135 = refl

waitsome_136 : wrong_arguments (known 0) (Finish (Waitsome (64 ∷ 65 ∷ 0 ∷ 70 ∷ []) None)) ≡ breach_with H2 1 4 (pos 65) ∷ breach H1 3 (pos 70) ∷ []
waitsome_136 = refl

test_137 : wrong_arguments (known 0) (Finish (Test 64 None)) ≡ []
test_137 = refl

test_138 : wrong_arguments (known 0) (Finish (Test 65 None)) ≡ breach_with H2 0 4 (pos 65) ∷ []
test_138 = refl

test_139 : wrong_arguments (known 0) (Finish (Test 70 None)) ≡ breach H1 0 (pos 70) ∷ []
test_139 = refl

testall_140 : wrong_arguments (known 0) (Finish (Testall (64 ∷ 66 ∷ []) None)) ≡ []
testall_140 = refl

testall_141 : wrong_arguments (known 0) (Finish (Testall (64 ∷ 65 ∷ 0 ∷ 70 ∷ []) None)) ≡ breach_with H2 1 4 (pos 65) ∷ breach H1 3 (pos 70) ∷ []
testall_141 = refl

testany_142 : wrong_arguments (known 0) (Finish (Testany (64 ∷ 66 ∷ []) None)) ≡ []
testany_142 = refl

testany_143 : wrong_arguments (known 0) (Finish (Testany (64 ∷ 65 ∷ 0 ∷ 70 ∷ []) None)) ≡ breach_with H2 1 4 (pos 65) ∷ breach H1 3 (pos 70) ∷ []
testany_143 = refl

testsome_144 : wrong_arguments (known 0) (Finish (Testsome (64 ∷ 66 ∷ []) None)) ≡ []
testsome_144 = refl

testsome_145 : wrong_arguments (known 0) (Finish (Testsome (64 ∷ 65 ∷ 0 ∷ 70 ∷ []) None)) ≡ breach_with H2 1 4 (pos 65) ∷ breach H1 3 (pos 70) ∷ []
testsome_145 = refl

requestfree_146 : wrong_arguments (known 0) (Finish (RequestFree 64)) ≡ []
requestfree_146 = refl

requestfree_147 : wrong_arguments (known 0) (Finish (RequestFree 0)) ≡ breach H1 0 (pos 0) ∷ []
requestfree_147 = refl

requestfree_148 : wrong_arguments (known 0) (Finish (RequestFree 65)) ≡ breach_with H2 0 4 (pos 65) ∷ []
requestfree_148 = refl

cancel_149 : wrong_arguments (known 0) (Finish (Cancel 64)) ≡ []
cancel_149 = refl

cancel_150 : wrong_arguments (known 0) (Finish (Cancel 0)) ≡ breach H1 0 (pos 0) ∷ []
cancel_150 = refl

cancel_151 : wrong_arguments (known 0) (Finish (Cancel 65)) ≡ breach_with H2 0 4 (pos 65) ∷ []
cancel_151 = refl

sendinit_152 : wrong_arguments (known 0) (Persist (SendInit 4096 (pos 1) 7 (pos 1) (pos 5) 1 None)) ≡ []
sendinit_152 = refl

sendinit_153 : wrong_arguments (known 0) (Persist (SendInit 4096 (negsuc 0) 7 (pos 1) (pos 5) 1 None)) ≡ breach A1 0 (negsuc 0) ∷ []
sendinit_153 = refl

sendinit_154 : wrong_arguments (known 0) (Persist (SendInit 4096 (pos 1) 0 (pos 1) (pos 5) 1 None)) ≡ breach H1 0 (pos 0) ∷ []
sendinit_154 = refl

sendinit_155 : wrong_arguments (known 0) (Persist (SendInit 4096 (pos 1) 65 (pos 1) (pos 5) 1 None)) ≡ breach_with H2 0 4 (pos 65) ∷ []
sendinit_155 = refl

sendinit_156 : wrong_arguments (known 0) (Persist (SendInit 4096 (pos 1) 64 (pos 1) (pos 5) 1 None)) ≡ breach_with H4 0 1 (pos 64) ∷ []
sendinit_156 = refl

sendinit_157 : wrong_arguments (known 0) (Persist (SendInit 4096 (pos 1) 7 (pos 3) (pos 5) 1 None)) ≡ breach A2 0 (pos 3) ∷ []
sendinit_157 = refl

sendinit_158 : wrong_arguments (known 0) (Persist (SendInit 4096 (pos 1) 7 (pos 1) (pos 40001) 1 None)) ≡ breach A3 0 (pos 40001) ∷ []
sendinit_158 = refl

sendinit_159 : wrong_arguments (known 0) (Persist (SendInit 4096 (pos 1) 7 (pos 1) (pos 5) 0 None)) ≡ breach H1 1 (pos 0) ∷ []
sendinit_159 = refl

sendinit_160 : wrong_arguments (known 0) (Persist (SendInit 4096 (pos 1) 7 (pos 1) (pos 5) 65 None)) ≡ breach_with H2 1 4 (pos 65) ∷ []
sendinit_160 = refl

sendinit_161 : wrong_arguments (known 0) (Persist (SendInit 4096 (negsuc 0) 64 (negsuc 1) (negsuc 1) 1 None)) ≡ breach A1 0 (negsuc 0) ∷ breach_with H4 0 1 (pos 64) ∷ breach A2 0 (negsuc 1) ∷ breach A3 0 (negsuc 1) ∷ []
sendinit_161 = refl

ssendinit_162 : wrong_arguments (known 0) (Persist (SsendInit 4096 (pos 1) 7 (pos 1) (pos 5) 1 None)) ≡ []
ssendinit_162 = refl

ssendinit_163 : wrong_arguments (known 0) (Persist (SsendInit 4096 (negsuc 0) 7 (pos 1) (pos 5) 1 None)) ≡ breach A1 0 (negsuc 0) ∷ []
ssendinit_163 = refl

ssendinit_164 : wrong_arguments (known 0) (Persist (SsendInit 4096 (pos 1) 0 (pos 1) (pos 5) 1 None)) ≡ breach H1 0 (pos 0) ∷ []
ssendinit_164 = refl

ssendinit_165 : wrong_arguments (known 0) (Persist (SsendInit 4096 (pos 1) 65 (pos 1) (pos 5) 1 None)) ≡ breach_with H2 0 4 (pos 65) ∷ []
ssendinit_165 = refl

ssendinit_166 : wrong_arguments (known 0) (Persist (SsendInit 4096 (pos 1) 64 (pos 1) (pos 5) 1 None)) ≡ breach_with H4 0 1 (pos 64) ∷ []
ssendinit_166 = refl

ssendinit_167 : wrong_arguments (known 0) (Persist (SsendInit 4096 (pos 1) 7 (pos 3) (pos 5) 1 None)) ≡ breach A2 0 (pos 3) ∷ []
ssendinit_167 = refl

ssendinit_168 : wrong_arguments (known 0) (Persist (SsendInit 4096 (pos 1) 7 (pos 1) (pos 40001) 1 None)) ≡ breach A3 0 (pos 40001) ∷ []
ssendinit_168 = refl

ssendinit_169 : wrong_arguments (known 0) (Persist (SsendInit 4096 (pos 1) 7 (pos 1) (pos 5) 0 None)) ≡ breach H1 1 (pos 0) ∷ []
ssendinit_169 = refl

ssendinit_170 : wrong_arguments (known 0) (Persist (SsendInit 4096 (pos 1) 7 (pos 1) (pos 5) 65 None)) ≡ breach_with H2 1 4 (pos 65) ∷ []
ssendinit_170 = refl

ssendinit_171 : wrong_arguments (known 0) (Persist (SsendInit 4096 (negsuc 0) 31 (negsuc 1) (negsuc 1) 1 None)) ≡ breach A1 0 (negsuc 0) ∷ breach A2 0 (negsuc 1) ∷ breach A3 0 (negsuc 1) ∷ []
ssendinit_171 = refl

recvinit_172 : wrong_arguments (known 0) (Persist (RecvInit 4096 (pos 1) 7 (pos 1) (pos 5) 1 None)) ≡ []
recvinit_172 = refl

recvinit_173 : wrong_arguments (known 0) (Persist (RecvInit 4096 (negsuc 0) 7 (pos 1) (pos 5) 1 None)) ≡ breach A1 0 (negsuc 0) ∷ []
recvinit_173 = refl

recvinit_174 : wrong_arguments (known 0) (Persist (RecvInit 4096 (pos 1) 0 (pos 1) (pos 5) 1 None)) ≡ breach H1 0 (pos 0) ∷ []
recvinit_174 = refl

recvinit_175 : wrong_arguments (known 0) (Persist (RecvInit 4096 (pos 1) 65 (pos 1) (pos 5) 1 None)) ≡ breach_with H2 0 4 (pos 65) ∷ []
recvinit_175 = refl

recvinit_176 : wrong_arguments (known 0) (Persist (RecvInit 4096 (pos 1) 64 (pos 1) (pos 5) 1 None)) ≡ breach_with H4 0 1 (pos 64) ∷ []
recvinit_176 = refl

recvinit_177 : wrong_arguments (known 0) (Persist (RecvInit 4096 (pos 1) 7 (pos 3) (pos 5) 1 None)) ≡ breach A2 0 (pos 3) ∷ []
recvinit_177 = refl

recvinit_178 : wrong_arguments (known 0) (Persist (RecvInit 4096 (pos 1) 7 (pos 1) (pos 40001) 1 None)) ≡ breach A3 0 (pos 40001) ∷ []
recvinit_178 = refl

recvinit_179 : wrong_arguments (known 0) (Persist (RecvInit 4096 (pos 1) 7 (pos 1) (pos 5) 0 None)) ≡ breach H1 1 (pos 0) ∷ []
recvinit_179 = refl

recvinit_180 : wrong_arguments (known 0) (Persist (RecvInit 4096 (pos 1) 7 (pos 1) (pos 5) 65 None)) ≡ breach_with H2 1 4 (pos 65) ∷ []
recvinit_180 = refl

recvinit_181 : wrong_arguments (known 0) (Persist (RecvInit 4096 (pos 1) 64 (negsuc 1) (pos 40001) 70 None)) ≡ breach_with H4 0 1 (pos 64) ∷ breach A3 0 (pos 40001) ∷ breach H1 1 (pos 70) ∷ []
recvinit_181 = refl

start_182 : wrong_arguments (known 0) (Persist (Start 64)) ≡ []
start_182 = refl

start_183 : wrong_arguments (known 0) (Persist (Start 0)) ≡ breach H1 0 (pos 0) ∷ []
start_183 = refl

start_184 : wrong_arguments (known 0) (Persist (Start 65)) ≡ breach_with H2 0 4 (pos 65) ∷ []
start_184 = refl

startall_185 : wrong_arguments (known 0) (Persist (Startall (64 ∷ 66 ∷ []))) ≡ []
startall_185 = refl

startall_186 : wrong_arguments (known 0) (Persist (Startall (0 ∷ []))) ≡ breach H1 0 (pos 0) ∷ []
startall_186 = refl

startall_187 : wrong_arguments (known 0) (Persist (Startall (64 ∷ 65 ∷ 0 ∷ 70 ∷ []))) ≡ breach_with H2 1 4 (pos 65) ∷ breach H1 2 (pos 0) ∷ breach H1 3 (pos 70) ∷ []
startall_187 = refl
