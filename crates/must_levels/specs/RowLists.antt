-- Ranks that have a need and rows alone, as the tests read them.
use Rattle.std.proofs.Common.{◌≡◌, ℕ, Bool, true, false, List, [], ◌∷◌, ◌++◌, Option, Some, map, refl, sym, ap, ◌∙◌, subst, ◌+◌, arith}
use Rattle.std.specs.Prelude.{nat_le, nat_lt}
use Rattle.std.specs.List.{AllByRecursion}
use Rattle.std.proofs.lemmas.Bool.{true≢false, and_from, le-leb, lt-ltb}
use Rattle.must_format.specs.declared.cause.Cause.TheVariants.{Truncated}
use Rattle.must_format.specs.declared.fault.StreamFault.{StreamFault}
use Rattle.must_format.specs.declared.fault.StreamFault.TheVariants as fault
use Rattle.must_p2p.specs.Items as p2p
use Rattle.must_coll.specs.Waves as waves
use Rattle.must_entry.specs.declared.entry.Entry.{Entry}
use Rattle.must_entry.specs.declared.entry.Entry.TheVariants.{Row, Message, Wave, Need}
use Rattle.must_entry.specs.declared.batch.Batch.{Batch}
use Rattle.must_entry.specs.Entries.{Waits, messages, calls, needs, entries_of}
use Rattle.must_entry.specs.Lawful.{in_range, IsOf, Rise, IsLawful}
use Rattle.must_inbox.specs.ListLaws.{all_join}
use Rattle.must_inbox.specs.RankLaws.{lawful_none}
use Rattle.must_inbox.specs.Rows.{IsRowOf, HasRows, rows_lawful, rows_push}
use Rattle.must_levels.specs.Readers.{one_rank}

-- the need of a rank's first call, which waits for nothing that can come
abbrev pub need_at : ℕ → Entry
need_at rank = Need (record { rank = rank; call = 0 }) []

-- a batch of a rank that has its need alone and isn't the last
abbrev pub HasNeed : ℕ → Batch → Type 0
HasNeed rank b = (b.rank ≡ rank) × (b.last ≡ false) × (b.entries ≡ need_at rank ∷ [])

-- what a rank gave: nothing before its need, and then rows
abbrev pub GaveCalls : (rank : ℕ) → (told : Bool) → List Batch → Type 0
GaveCalls rank false given = given ≡ []
GaveCalls rank true [] = ⊥
GaveCalls rank true (b ∷ bs) = HasNeed rank b × AllByRecursion (HasRows rank) bs

-- the fault of a rank whose stream ends too early at this offset
abbrev pub EndsAt : Option ℕ → StreamFault → Type 0
EndsAt end f = (at : ℕ) × (end ≡ Some at) × (f ≡ fault.Malformed at Truncated)

in_one : (rank : ℕ) → in_range (one_rank rank) rank ≡ true
in_one rank = and_from (nat_le rank rank) (nat_lt rank (rank + 1)) (le-leb rank rank (omega arith)) (lt-ltb rank (rank + 1) (omega arith))

no_needs : (rank : ℕ) (es : List Entry) → AllByRecursion (IsRowOf rank) es → needs es ≡ []
no_needs rank [] a = refl
no_needs rank (Row f ∷ es) a = no_needs rank es a.1
no_needs rank (Message x ∷ es) a = absurd a.0
no_needs rank (Wave x ∷ es) a = absurd a.0
no_needs rank (Need p ways ∷ es) a = absurd a.0

all_rows : (rank : ℕ) (bs : List Batch) → AllByRecursion (HasRows rank) bs → AllByRecursion (IsRowOf rank) (entries_of bs)
all_rows rank [] a = tt
all_rows rank (b ∷ bs) a = all_join (IsRowOf rank) b.entries (entries_of bs) a.0.2 (all_rows rank bs a.1)

first_lawful : (rank : ℕ) (b : Batch) (bs : List Batch) → HasNeed rank b → AllByRecursion (HasRows rank) bs → IsLawful (one_rank rank) (b ∷ bs)
first_lawful rank b bs n a =
    let rest = rows_lawful (one_rank rank) rank bs (in_one rank) a in
    let es = entries_of bs in
    let all : need_at rank ∷ es ≡ entries_of (b ∷ bs) = ap (λ (l : List Entry). l ++ es) (sym n.2) in
    let one : Rise (map (λ w. w.place) (needs (need_at rank ∷ es))) = subst (λ (l : List Waits). Rise (map (λ w. w.place) (record { place = record { rank = rank; call = 0 }; ways = [] } ∷ l))) (sym (no_needs rank es (all_rows rank bs a))) (tt, tt) in
    record {
      each = (subst (λ (x : ℕ × List Entry). (in_range (one_rank rank) x.0 ≡ true) × AllByRecursion (IsOf x.0) x.1) (λ i. (sym n.0 i, sym n.2 i)) (in_one rank, (refl, tt)), rest.each);
      lasts = ((λ is. absurd (true≢false (sym is ∙ n.1))), rest.lasts);
      messages = subst (λ l. p2p.Orderly (messages l)) all rest.messages;
      numbered = subst (λ l. waves.Orderly (calls l)) all rest.numbered;
      calls = subst (λ l. Rise (map (λ x. x.place) (calls l))) all rest.calls;
      needs = subst (λ l. Rise (map (λ w. w.place) (needs l))) all one;
    }

pub calls_lawful : (rank : ℕ) (told : Bool) (given : List Batch) → GaveCalls rank told given → IsLawful (one_rank rank) given
calls_lawful rank false given g = subst (IsLawful (one_rank rank)) (sym g) (lawful_none (one_rank rank))
calls_lawful rank true [] g = absurd g
calls_lawful rank true (b ∷ bs) g = first_lawful rank b bs g.0 g.1

-- the need comes first
pub calls_begin : (rank : ℕ) (given : List Batch) (b : Batch) → GaveCalls rank false given → HasNeed rank b → GaveCalls rank true (given ++ b ∷ [])
calls_begin rank given b g n = subst (λ (l : List Batch). GaveCalls rank true (l ++ b ∷ [])) (sym g) (n, tt)

-- one row more
pub calls_more : (rank : ℕ) (given : List Batch) (b : Batch) → GaveCalls rank true given → HasRows rank b → GaveCalls rank true (given ++ b ∷ [])
calls_more rank [] b g h = absurd g
calls_more rank (x ∷ xs) b g h = (g.0, rows_push rank xs b g.1 h)
