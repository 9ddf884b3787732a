-- What a call starts for persistent requests.
use Rattle.std.proofs.Common.{◌≡◌, ℕ, suc, ◌+◌, ◌<◌, Bool, true, false, cond, not, ◌&&◌, List, [], ◌∷◌, ◌++◌, length, take, get_or, Option, Some, None, refl, sym, ap, subst, ◌∙◌, arith}
use Rattle.std.specs.Prelude.{is_none, option_map}
use Rattle.std.specs.Option.{option_to_list}
use Rattle.std.proofs.lemmas.List.{take_more, length-take-le}
use Rattle.must_call.specs.declared.class.Class.TheVariants.{Request}
use Rattle.must_call.specs.declared.call.Call.{Call}
use Rattle.must_rules.specs.Rank.{Rank}
use Rattle.must_rules.specs.Search.{or_then, only_if}
use Rattle.must_rules.specs.Making.{is_in, started_of}
use Rattle.must_rules.specs.Lives.{life, is_kept}
use Rattle.must_rules.specs.Starts.{start_of}
use Rattle.must_rules.specs.ArgumentHandles.{StartOf}
use Rattle.must_rules.specs.Known.{clear_behind}
use Rattle.must_parts.specs.Starting.{starts_now}
use Rattle.must_messages.specs.declared.asked.Asked.{Asked}
use Rattle.must_messages.specs.declared.asked.Begun.{Begun}
use Rattle.must_rules.specs.Operations.{Operation, Message, operation, message_made, message_started, with_started, started_from}
use Rattle.must_messages.specs.Asking.{AreBegun}
use Rattle.must_begin.specs.Telling.{IsAskedOf, IsBegunOf}
use Rattle.must_begin.specs.Keeping.{message_kept}
use Rattle.must_begin.proofs.Beginning.{begun_join, begun_option, begun_asked}

-- ---- one request

started_one : (clear kept again : Bool) (s : Option ℕ) (k : ℕ) (made : Option Message)
    → cond (clear && (kept && is_none (or_then s (only_if (clear && (again && kept)) k)))) made None ≡ cond (clear && (is_none s && not again)) (cond kept made None) None
started_one false kept again s k made = refl
started_one true false again (Some n) k made = refl
started_one true false true None k made = refl
started_one true false false None k made = refl
started_one true true again (Some n) k made = refl
started_one true true true None k made = refl
started_one true true false None k made = refl

module _ (r : Rank) (calls : List Call) (call : Call) where
  -- by what is known of it
  pub started_is : (starts : StartOf) (clear again : Bool) (index x : ℕ) → starts ≡ start_of (clear_behind r) calls → clear ≡ clear_behind r calls call → again ≡ is_in (take index (started_of call.body)) x
      → message_started r calls call index x ≡ cond (starts_now clear starts again x) (message_kept r calls x) None
  unfolding message_started message_kept
  started_is starts clear again index x s c a =
      started_one (clear_behind r calls call) (is_kept calls Request x) (is_in (take index (started_of call.body)) x) (start_of (clear_behind r) calls x) (length calls) (message_made r calls (life calls Request x))
      ∙ ap (λ (b : Bool). cond (starts_now b (start_of (clear_behind r) calls) (is_in (take index (started_of call.body)) x) x) (message_kept r calls x) None) (sym c)
      ∙ ap (λ (f : StartOf). cond (starts_now clear f (is_in (take index (started_of call.body)) x) x) (message_kept r calls x) None) (sym s)
      ∙ ap (λ (b : Bool). cond (starts_now clear starts b x) (message_kept r calls x) None) (sym a)

  -- ---- a list of them

  abbrev pub one_started : (index x : ℕ) → Option Operation
  one_started index x = option_map (operation (length calls) index (Some x)) (message_started r calls call index x)

  -- one that isn't started begins nothing
  pub not_started : (starts : StartOf) (clear again : Bool) (index x : ℕ) → starts ≡ start_of (clear_behind r) calls → clear ≡ clear_behind r calls call → again ≡ is_in (take index (started_of call.body)) x
      → starts_now clear starts again x ≡ false → IsBegunOf (length calls) None (one_started index x)
  not_started starts clear again index x s c a e =
      let none : message_started r calls call index x ≡ None = started_is starts clear again index x s c a ∙ ap (λ (b : Bool). cond b (message_kept r calls x) None) e in
      subst (λ (m : Option Message). IsBegunOf (length calls) None (option_map (operation (length calls) index (Some x)) m)) (sym none) tt

  -- one that is started begins what is kept of it
  pub started_by : (starts : StartOf) (clear again : Bool) (index x : ℕ) → starts ≡ start_of (clear_behind r) calls → clear ≡ clear_behind r calls call → again ≡ is_in (take index (started_of call.body)) x
      → starts_now clear starts again x ≡ true → (o : Option Asked) → IsAskedOf o (message_kept r calls x)
      → IsBegunOf (length calls) (option_map (λ (asked : Asked). record { part = index; request = Some x; asked = asked }) o) (one_started index x)
  started_by starts clear again index x s c a e o kept =
      let is : message_started r calls call index x ≡ message_kept r calls x = started_is starts clear again index x s c a ∙ ap (λ (b : Bool). cond b (message_kept r calls x) None) e in
      subst (λ (m : Option Message). IsBegunOf (length calls) (option_map (λ (asked : Asked). record { part = index; request = Some x; asked = asked }) o) (option_map (operation (length calls) index (Some x)) m)) (sym is)
      (begun_asked (length calls) index (Some x) o (message_kept r calls x) kept)

  with_append : (n index x : ℕ) (m : Option Message) (ops others : List Operation) → with_started n index x m (ops ++ others) ≡ with_started n index x m ops ++ others
  with_append n index x None ops others = refl
  with_append n index x (Some m) ops others = refl

  with_alone : (n index x : ℕ) (m : Option Message) → with_started n index x m [] ≡ option_to_list (option_map (operation n index (Some x)) m)
  with_alone n index x None = refl
  with_alone n index x (Some m) = refl

  -- the last one of a list
  from_last : (index at : ℕ) (xs : List ℕ) (x : ℕ) → index + length xs ≡ at → started_from r calls call index (xs ++ x ∷ []) ≡ started_from r calls call index xs ++ option_to_list (one_started at x)
  from_last index at [] x e =
      let same : index ≡ at = omega (arith, e) in
      with_alone (length calls) index x (message_started r calls call index x) ∙ ap (λ (n : ℕ). option_to_list (one_started n x)) same
  from_last index at (y ∷ ys) x e =
      ap (with_started (length calls) index y (message_started r calls call index y)) (from_last (suc index) at ys x (omega (arith, e)))
      ∙ with_append (length calls) index y (message_started r calls call index y) (started_from r calls call (suc index) ys) (option_to_list (one_started at x))

  pub from_more : (xs : List ℕ) (i d : ℕ) → i < length xs → started_from r calls call 0 (take (i + 1) xs) ≡ started_from r calls call 0 (take i xs) ++ option_to_list (one_started i (get_or xs i d))
  from_more xs i d within =
      ap (started_from r calls call 0) (take_more xs i d within)
      ∙ from_last 0 i (take i xs) (get_or xs i d) (omega (arith, length-take-le i xs (omega (arith, within))))

  -- one operation more is begun
  pub begun_more : (xs : List ℕ) (i x : ℕ) (old new : List Begun) (o : Option Begun) → i < length xs → x ≡ get_or xs i 0 → AreBegun (length calls) old (started_from r calls call 0 (take i xs)) → IsBegunOf (length calls) o (one_started i x)
      → new ≡ old ++ option_to_list o → AreBegun (length calls) new (started_from r calls call 0 (take (i + 1) xs))
  begun_more xs i x old new o within is before one e =
      subst (λ (l : List Begun). AreBegun (length calls) l (started_from r calls call 0 (take (i + 1) xs))) (sym e)
      (subst (AreBegun (length calls) (old ++ option_to_list o)) (ap (λ (n : ℕ). started_from r calls call 0 (take i xs) ++ option_to_list (one_started i n)) is ∙ sym (from_more xs i 0 within))
      (begun_join (length calls) old (option_to_list o) (started_from r calls call 0 (take i xs)) (option_to_list (one_started i x)) before (begun_option (length calls) o (one_started i x) one)))
