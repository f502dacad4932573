-- The faulty records of a text: the fault by which it is refused, and the fewest cores and blocks with which it is taken where they are all it needs.
use Rattle.std.proofs.Common.{◌≡◌, ℕ, ◌+◌, ◌≤◌, ◌++◌, List, [], ◌∷◌, length, Option, Some, true, false, refl, sym, ap, ◌∙◌, arith, append_assoc, append-nil}
use Rattle.std.{specs.{List.list_all, Prelude.{Result, codes, fold, max, not, option_map}, Result.result_err}, proofs.Math.Nat.zero-div}
use Rattle.csv.specs.Records.{field_at}
use Rattle.snoop_trace.specs.Grammar.{ask, order, respond, row_by_letter, row_in, step_in, store, without_value}
use Rattle.snoop_trace.specs.{Heading.heading_for, Text.{entries_from, entries_in}}
use Rattle.snoop_lint.specs.{Fewest.{AreFewest, resized}, Fields.{field, number_at}, Hints.is_letter_of, Kinds.{address_named, core_named}, Summary.can_be_taken, Tallies.{block_named, greatest}}
use Rattle.snoop_lint.proofs.Common.{Bool, Extent, Finding, Form, Protocol, Rows, Steps, TextFault, fault_at, finding, findings, findings_from}
use Rattle.snoop_lint.proofs.Common.{first_fault, has_heading, heads, if◌then◌else◌, is_limit, is_none, is_other, list_any, nat_lt, nat_tests}
use Rattle.snoop_lint.proofs.Common.{option_to_list, records_of, refusal, tally_of, ◌&&◌, ◌||◌}

abbrev pub Fields : Type 0
Fields = List (List ℕ)

-- the finding of a record that has this fault, if any
abbrev pub found_at : ℕ → Fields → Option TextFault → Option Finding
found_at n row fault = option_map (λ (why : TextFault). record { number = n; fields = row; fault = why }) fault

-- a finding that more cores and blocks would not mend
abbrev pub is_beyond : Finding → Bool
is_beyond f = not (is_limit f.fault)

-- of a record that has this fault, if any, and of the findings after it: whether one is of another kind, and whether there is none
pub record Found (n : ℕ) (row : Fields) (o : Option TextFault) (rest : List Finding) : Type 0 where
  pub others : list_any is_beyond (option_to_list (found_at n row o) ++ rest) ≡ (is_other o || list_any is_beyond rest)
  pub none : is_none (first_fault (option_to_list (found_at n row o) ++ rest)) ≡ (is_none o && is_none (first_fault rest))

pub found : (n : ℕ) (row : Fields) (o : Option TextFault) (rest : List Finding) → Found n row o rest
found n row o rest = record { others = grind arith; none = grind arith }

-- one record more
pub findings_more : (fault : ℕ → Fields → Option TextFault) (n : ℕ) (rows : List Fields) (row : Fields) (m : ℕ) → m ≡ n + length rows
    → findings_from fault n (rows ++ (row ∷ [])) ≡ findings_from fault n rows ++ option_to_list (finding fault m row)
unfolding findings_from
findings_more fault n [] row m e = let same : n ≡ m = omega arith in rw same (append-nil (option_to_list (finding fault m row)))
findings_more fault n (r ∷ rows) row m e = rw (findings_more fault (n + 1) rows row m (omega arith)) (sym (append_assoc (option_to_list (finding fault n r)) _ _))

-- a text of entries is refused by the fault of its first faulty record
first_of : {A : Type 0} (says : ℕ → Fields → Result A TextFault) (fault : ℕ → Fields → Option TextFault) (n : ℕ) (rows : List Fields)
    → ((m : ℕ) (fields : Fields) → n ≤ m → fault m fields ≡ result_err (says m fields))
    → result_err (entries_from says n rows) ≡ first_fault (findings_from fault n rows)
unfolding entries_from findings_from
first_of says fault n [] same = refl
first_of says fault n (row ∷ rows) same =
    grind (arith, same n row (omega arith), first_of says fault (n + 1) rows (λ m fields h. same m fields (omega arith)))

steps_first : (protocol : Protocol) (shape : Extent) (rows : List Fields)
    → result_err (entries_in (step_in shape) (Some (heading_for protocol shape)) rows) ≡ first_fault (findings Steps protocol shape rows)
unfolding entries_in entries_from findings_from
steps_first protocol shape [] = refl
steps_first protocol shape (first ∷ rest) =
    grind (arith, first_of (step_in shape) (fault_at Steps protocol shape) 2 rest (λ n fields h. grind (arith, nat_tests)))

-- the first fault is the one by which reading refuses the text, and there is none where reading takes it
pub first_is_refusal : (form : Form) (protocol : Protocol) (shape : Extent) (bytes : List ℕ)
    → first_fault (findings form protocol shape (records_of bytes)) ≡ refusal form protocol shape bytes
unfolding entries_in
first_is_refusal Steps protocol shape bytes = sym (steps_first protocol shape (records_of bytes))
first_is_refusal Rows protocol shape bytes = sym (first_of (row_in shape) (fault_at Rows protocol shape) 1 (records_of bytes) (λ m fields h. refl))

-- a greatest number is below a bound exactly where each is
all_below : (number : Fields → ℕ) (c m : ℕ) (rows : List Fields)
    → nat_lt (fold (λ most row. max most (number row)) m rows) c ≡ (nat_lt m c && list_all (λ row. nat_lt (number row) c) rows)
all_below number c m [] = grind arith
all_below number c m (row ∷ rows) = grind (arith, nat_tests, all_below number c (max m (number row)) rows)

-- the core and the address that a record names, by the letters that name one
core_by_letter : (row : Fields) → core_named row ≡ (if is_letter_of (codes "LSEO") (field row 0) then number_at row 1 else 0)
unfolding core_named
core_by_letter row = grind (arith, nat_tests)

address_by_letter : (row : Fields) → address_named row
    ≡ (if is_letter_of (codes "LSE") (field row 0) then number_at row 2 else (if is_letter_of (codes "R") (field row 0) then number_at row 1 else 0))
unfolding address_named
address_by_letter row = grind (arith, nat_tests)

-- a text with no other faults is taken with so many cores and blocks exactly where each core and each block that it names is there
module _ (shape : Extent) (c b : ℕ) (some_core : 1 ≤ c) (some_block : 1 ≤ b) where
  -- so it is of a record that is no heading
  fault_bound : (form : Form) (protocol : Protocol) (n : ℕ) (row : Fields) → heads form n row ≡ false → is_other (fault_at form protocol shape n row) ≡ false
      → is_none (fault_at form protocol (resized shape c b) n row) ≡ (nat_lt (core_named row) c && nat_lt (block_named shape row) b)
  unfolding row_in step_in ask order respond row_by_letter without_value store field_at
  fault_bound Steps protocol n row none same = grind (arith, nat_tests, core_by_letter row, address_by_letter row, zero-div shape.block_bytes)
  fault_bound Rows protocol n row none same = grind (arith, nat_tests, core_by_letter row, address_by_letter row)

  -- and of records one after another, with no heading among them
  all_bound : (form : Form) (protocol : Protocol) (n : ℕ) (rows : List Fields) → 1 ≤ n → (n ≡ 1 → has_heading form rows ≡ false)
      → list_any is_beyond (findings_from (fault_at form protocol shape) n rows) ≡ false
      → is_none (first_fault (findings_from (fault_at form protocol (resized shape c b)) n rows))
      ≡ (list_all (λ row. nat_lt (core_named row) c) rows && list_all (λ row. nat_lt (block_named shape row) b) rows)
  unfolding findings_from
  all_bound form protocol n [] counts first none = refl
  all_bound form protocol n (row ∷ rows) counts first none =
      let heading : heads form n row ≡ false = grind (arith, nat_tests) in
      let at = λ (e : Extent). found n row (fault_at form protocol e n row) (findings_from (fault_at form protocol e) (n + 1) rows) in
      let others = (at shape).others in
      let later = (at (resized shape c b)).none in
      let more = all_bound form protocol (n + 1) rows (omega arith) (λ e. absurd (omega arith)) in
      grind (arith, none, others, later, fault_bound form protocol n row heading, more)

-- the greatest core and the greatest block, each plus one
pub fewest : (form : Form) (protocol : Protocol) (shape : Extent) (bytes : List ℕ) → can_be_taken (tally_of form protocol shape (records_of bytes)) ≡ true
    → AreFewest form protocol shape bytes ((tally_of form protocol shape (records_of bytes)).core + 1)
    ((tally_of form protocol shape (records_of bytes)).block + 1)
unfolding tally_of can_be_taken
fewest form protocol shape bytes mendable =
    let rows : List Fields = records_of bytes in
    let heading : has_heading form rows ≡ false = grind arith in
    let others : list_any is_beyond (findings form protocol shape rows) ≡ false = grind arith in
    let taken : (c b : ℕ) → 1 ≤ c → 1 ≤ b → is_none (refusal form protocol (resized shape c b) bytes)
    ≡ (nat_lt (greatest core_named rows) c && nat_lt (greatest (block_named shape) rows) b) = λ c b p q.
    ap is_none (sym (first_is_refusal form protocol (resized shape c b) bytes))
    ∙ all_bound shape c b p q form protocol 1 rows (omega arith) (λ _. heading) others
    ∙ grind (arith, nat_tests, all_below core_named c 0 rows, all_below (block_named shape) b 0 rows) in
    record {
      enough = λ c b p q. grind (arith, nat_tests, taken c b (omega (arith, p)) (omega (arith, q)));
      needed = λ c b p q is. grind (arith, nat_tests, taken c b p q);
    }
