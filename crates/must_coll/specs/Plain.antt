-- Items whose signatures are told one basic type at a time: only the lists of basic types that signatures stand for are left.
use Rattle.std.proofs.Common.{◌≡◌, List, [], ◌∷◌, map, refl, ap, sym, ◌∙◌}
use Rattle.std.proofs.lemmas.List.{append-nil}
use Rattle.must_call.specs.declared.basic.Basic.{Basic}
use Rattle.must_sig.specs.declared.run.Run.{Run}
use Rattle.must_sig.specs.Signatures.{Periods, repeated, laid, expansion}
use Rattle.must_coll.specs.declared.item.WaveItem.{WaveItem}

-- one element of a basic type
abbrev pub run_of : Basic → Run
run_of b = record { basic = b; length = 1 }

-- a list of basic types, told one by one
abbrev pub written : List Basic → Periods
written bs = record { unit = map run_of bs; times = 1 }

-- the same signature, told one by one
abbrev pub plain_signature : Periods → Periods
plain_signature p = written (expansion p)

-- the same item, its signatures told one by one
abbrev pub plain : WaveItem → WaveItem
plain x = record x { sends = map plain_signature x.sends; recvs = map plain_signature x.recvs }

-- ---- laws

laid_written : (bs : List Basic) → laid (map run_of bs) ≡ bs
laid_written [] = refl
laid_written (b ∷ bs) = ap (λ (l : List Basic). b ∷ l) (laid_written bs)

one_time : (bs : List Basic) → repeated 1 bs ≡ bs
unfolding repeated
one_time bs = append-nil bs

-- it stands for the same list
pub plain_expansion : (p : Periods) → expansion (plain_signature p) ≡ expansion p
plain_expansion p = one_time (laid (map run_of (expansion p))) ∙ laid_written (expansion p)

all_written : (ps : List Periods) → map plain_signature ps ≡ map written (map expansion ps)
all_written [] = refl
all_written (p ∷ ps) = ap (λ (l : List Periods). plain_signature p ∷ l) (all_written ps)

-- signatures that stand for the same lists are told alike
pub plain_alike : (ps qs : List Periods) → map expansion ps ≡ map expansion qs → map plain_signature ps ≡ map plain_signature qs
plain_alike ps qs same = all_written ps ∙ ap (map written) same ∙ sym (all_written qs)
