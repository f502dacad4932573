-- A driver that serves rows one after another: what its steps need, and what they keep.
use Rattle.snoop_engine.proofs.Common.{AsksWhenQuiet, arith, common_steps, nat_tests, ask_of, ◌≡◌, ℕ, ◌/◌, true, false, Option, Some, None, List, [], ◌∷◌, refl, sym, ◌∙◌, IfNone, IfSome, subst, All-head, All-tail, Extent, IsRowWithin, word_asked, Op, Row, Step, Ask, Reply, FirstMove, Situation, IsQuiet, IsUnderWay, turn_of, turn_rule, eq-eqb, ne_eqb, block_at, word_there, InOrder, IsInOrder, TakesUpNext, row_under_way, ServesOnly, nothing, only, IsEnabled, ask_for, is_ask}
use Rattle.snoop_engine.proofs.TakenLemmas.{same_shape}

-- a core whose block is under way
here : (core block : ℕ) → only core block core ≡ Some block
here core block = rw (eq-eqb core core refl)

-- a step of work under way is no Ask
abbrev pub AsksNothing : Step → Type 0
AsksNothing step =
    (is_ask step ≡ false) × ((under_way : ℕ → Option ℕ) → IsUnderWay under_way step) × ((core : ℕ) → ask_of core step ≡ None) × ((s : Situation) → AsksWhenQuiet s step)

pub under_way_asks_nothing : (s : Situation) (core block word : ℕ) (asking : Op) (r : Option Step) → r ≡ turn_of s core block word asking true
    → IfSome r AsksNothing
under_way_asks_nothing s core block word asking r is = grind (arith, common_steps)

-- a machine that waits for nothing waits only for what is under way, whatever that is
pub serves_any : (s : Situation) (some : ℕ → Option ℕ) → ServesOnly nothing s → ServesOnly some s
serves_any s some serves = record {
  kept = serves.kept;
  serving = record { waits = λ core i d lt. cc (serves.serving.waits core i d lt); opened = λ block transaction is. cc (serves.serving.opened block transaction is) };
}

-- nothing waits and nothing is open
pub at_rest : (s : Situation) → ServesOnly nothing s → IsQuiet s
at_rest s serves = turn_rule.comes_to_rest s serves.serving serves.kept

-- a row that is under way
module _ {s : Situation} {left : List Row} {row : Row} (fit : IsInOrder s left (Some row)) where
  abbrev block : ℕ
  block = row.address / s.shape.block_bytes

  abbrev word : ℕ
  word = word_asked s.shape row.address row.op

  pub goes_on_enabled : (r : Option Step) → r ≡ turn_of s row.core block word row.op true → IfSome r (IsEnabled s)
  goes_on_enabled None is = tt
  goes_on_enabled (Some step) is =
      turn_rule.never_refused s (only row.core block) row.core block word row.op true step fit.serves.serving fit.serves.kept
      fit.begun.0 fit.begun.1 (word_there s.shape row.address row.op fit.limits) (here row.core block) (sym is)

  pub row_over : (r : Option Step) → r ≡ turn_of s row.core block word row.op true → IfNone r (ServesOnly nothing s)
  row_over (Some step) is = tt
  row_over None is = record {
    kept = fit.serves.kept;
    serving = turn_rule.ends s (only row.core block) nothing row.core block word row.op fit.serves.serving fit.serves.kept (here row.core block) (sym is) (λ other ne. rw (ne_eqb other row.core ne));
  }

-- the row that was left first may be under way before it is asked
module _ {s : Situation} {left : List Row} {old : Option Row} (fit : IsInOrder s left old) (serves : ServesOnly nothing s) (row : Row) (rest : List Row) (first : left ≡ row ∷ rest) where
  pub begun_fit : IsInOrder s rest (Some row)
  begun_fit = record {
    limits = fit.limits;
    within = All-tail (IsRowWithin s.shape) row rest (rw first at fit.within);
    begun = All-head (IsRowWithin s.shape) row rest (rw first at fit.within);
    serves = serves_any s (row_under_way s.shape (Some row)) serves;
  }

  pub begun_enabled : IsEnabled s (ask_for s.shape row)
  begun_enabled =
      turn_rule.never_refused s nothing row.core (row.address / s.shape.block_bytes) (word_asked s.shape row.address row.op) row.op false (ask_for s.shape row) serves.serving serves.kept
      begun_fit.begun.0 begun_fit.begun.1 (word_there s.shape row.address row.op fit.limits) refl refl

  pub begun_takes_up : TakesUpNext (record { situation = s; left = left; row = old }) (ask_for s.shape row) rest
  begun_takes_up = record { first = row ∷ []; left = first; asked = refl; rest = λ asks. at_rest s serves }

-- the block of a row's address
pub block_is : (shape : Extent) (row : Row) → IsRowWithin shape row → (found : Option ℕ) (block : ℕ) → found ≡ block_at shape row.address → found ≡ Some block → block ≡ row.address / shape.block_bytes
block_is shape row within found block at is = grind (arith, common_steps, nat_tests, within.1)

-- its Ask, by the block and the word that the shape answers
pub asks_row : (shape : Extent) (row : Row) → IsRowWithin shape row → (found : Option ℕ) (block word : ℕ) → found ≡ block_at shape row.address → found ≡ Some block → word ≡ word_asked shape row.address row.op
    → Ask row.core block word row.op ≡ ask_for shape row
asks_row shape row within found block word at is its = rw (block_is shape row within found block at is, its)

-- a step that asks nothing takes up nothing
pub asks_nothing_more : (old : InOrder) (step : Step) → is_ask step ≡ false → TakesUpNext old step old.left
asks_nothing_more old step none = record { first = []; left = refl; asked = rw none; rest = λ asks. let clash : false ≡ true = sym none ∙ asks in cc }

-- a move keeps what holds between steps
pub in_order_moves : {s : Situation} {left : List Row} {row : Option Row} → IsInOrder s left row → (t : Situation) (step : Step) (answer : Reply) → IsUnderWay (row_under_way s.shape row) step
    → FirstMove s step answer t → IsInOrder t left row
in_order_moves {s} {left} {row} fit t step answer its move =
    let e : t.shape ≡ s.shape = same_shape s t step answer move in
    record {
      limits = rw e fit.limits;
      within = rw e fit.within;
      begun = rw e fit.begun;
      serves = subst (λ (x : Extent). ServesOnly (row_under_way x row) t) (sym e) (record {
        kept = turn_rule.keeps_well s t step answer fit.serves.kept move;
        serving = turn_rule.serves_on s t (row_under_way s.shape row) (row_under_way s.shape row) step answer fit.serves.serving move (λ k b h. h) its;
      });
    }
