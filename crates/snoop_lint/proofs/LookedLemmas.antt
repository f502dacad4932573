-- What was appended and counted of the records that were read so far.
use Rattle.std.proofs.Common.{◌≡◌, ℕ, ◌+◌, ◌≤◌, ◌++◌, List, [], ◌∷◌, length, length-append, take, Option, Some, true, false, refl, sym, ap, ◌∙◌, arith, append_assoc, append-nil}
use Rattle.std.{specs.{List.flat_map, Option.option_map_or}, proofs.Math.{Bool.or-false, Seq.take-nil}}
use Rattle.std.proofs.lemmas.{Grind.common_steps, List.{length_push, Folds.list_any-append, Sums.fold_push}}
use Rattle.csv.{specs.{Reading.{ReadRecord, reader_config, reader_state, records, source_of}, declared.reader.Reader.Reader}, proofs.ReadFacts.rows-end}
use Rattle.csv.specs.declared.parser.State.TheVariants as st
use Rattle.snoop_trace.{specs.Progress.records_left, proofs.{CsvLemmas.{records-ended, records_step}, TextLemmas.took}}
use Rattle.snoop_lint.specs.{Linted.{first_lines, line_at}, Looked.line_if_room, Tallies.one_more}
use Rattle.snoop_lint.proofs.Common.{Extent, Finding, Form, Protocol, Tally, default_config, fault_at, finding, findings, findings_from, has_heading}
use Rattle.snoop_lint.proofs.Common.{heads, is_some, nat_lt, nat_tests, option_to_list, tally_of, ◌||◌, if◌then◌else◌}
use Rattle.snoop_lint.proofs.FindingLemmas.{Fields, findings_more, found, found_at}

-- what is counted, with one record more
tally_more : (form : Form) (protocol : Protocol) (shape : Extent) (rows : List Fields) (row : Fields) (n : ℕ) → n ≡ length rows + 1
    → tally_of form protocol shape (rows ++ (row ∷ [])) ≡ one_more form shape n row (fault_at form protocol shape n row) (tally_of form protocol shape rows)
unfolding tally_of
tally_more form protocol shape rows row n e =
    let fault = fault_at form protocol shape n row in
    let faults : length (option_to_list (found_at n row fault)) ≡ (if is_some fault then 1 else 0) = grind arith in
    let others = rw append-nil at (found n row fault []).others in
    let heading : has_heading form (rows ++ (row ∷ [])) ≡ (has_heading form rows || heads form n row) = grind (arith, nat_tests) in
    rw (length_push rows row ∙ sym e, findings_more (fault_at form protocol shape) 1 rows row n (omega arith), heading)
    (simp (length-append, list_any-append, fold_push, faults, others, or-false) refl)

-- the piece of one finding more, where there is room for it
take_room : (f : Finding → List ℕ) (most : ℕ) (fs : List Finding) (o : Option Finding)
    → flat_map f (take most (fs ++ option_to_list o)) ≡ flat_map f (take most fs) ++ (if nat_lt (length fs) most then option_map_or f o [] else [])
take_room f most fs o = grind (arith, common_steps, nat_tests)

-- n records of a text were read; their lines were appended, and they were counted
pub record Looked {R : Type 0} (form : Form) (most : ℕ) (protocol : Protocol) (shape : Extent) (lines xs : List ℕ)
    (rem : R → Option (List ℕ)) (r : Reader R) (old out : List ℕ) (tally : Tally) (n : ℕ) : Type 0 where
  pub rows : List Fields
  pub ys : List ℕ
  pub at : source_of rem r ≡ Some ys
  pub all : records default_config xs ≡ rows ++ records_left (reader_state r) ys
  pub count : length rows ≡ n
  pub few : tally.faults ≤ n
  pub out_is : out ≡ old ++ first_lines form most protocol shape lines rows
  pub tally_is : tally ≡ tally_of form protocol shape rows

module _ {R : Type 0} {form : Form} {most : ℕ} {protocol : Protocol} {shape : Extent} {lines xs old : List ℕ} {rem : R → Option (List ℕ)} where
  -- no record was read yet
  pub looked_none : {r : Reader R} {tally : Tally} → source_of rem r ≡ Some xs → reader_state r ≡ st.StartRecord
      → tally ≡ record { records = 0; faults = 0; has_others = false; has_heading = false; asks = false; drives = false; core = 0; block = 0 }
      → Looked form most protocol shape lines xs rem r old old tally 0
  unfolding first_lines findings_from tally_of
  looked_none at begins none = record {
    rows = [];
    ys = xs;
    at = at;
    all = rw begins refl;
    count = refl;
    few = rw none (omega arith);
    out_is = grind (arith, common_steps, take-nil);
    tally_is = none;
  }

  -- one record more
  pub looked_more : {a b : Reader R} (f : Fields) {out next : List ℕ} {tally counted : Tally} {n : ℕ}
      → reader_config a ≡ default_config → ReadRecord rem a b true f → Looked form most protocol shape lines xs rem a old out tally n
      → next ≡ out ++ line_if_room form most protocol shape lines tally.faults (n + 1) f
      → counted ≡ one_more form shape (n + 1) f (fault_at form protocol shape (n + 1) f) tally
      → Looked form most protocol shape lines xs rem b old next counted (n + 1)
  unfolding first_lines tally_of
  looked_more {a} {b} f {out} {next} {tally} {counted} {n} config read far line count =
      let (ys, step, at) = took rem a b f config far.ys read far.at in
      let more = findings_more (fault_at form protocol shape) 1 far.rows f (n + 1) (omega (arith, far.count)) in
      let faulty : List Finding = findings form protocol shape far.rows in
      let faults : tally.faults ≡ length faulty = ap (λ (t : Tally). t.faults) far.tally_is in
      let room = take_room (line_at form protocol shape lines) most faulty (finding (fault_at form protocol shape) (n + 1) f) in
      record {
        rows = far.rows ++ (f ∷ []);
        ys = ys;
        at = at;
        all = far.all ∙ rw (records_step default_config _ far.ys (f, reader_state b, ys) step) (sym (append_assoc far.rows _ _));
        count = omega (arith, length-append far.rows (f ∷ []), far.count);
        few = rw count (grind (arith, far.few));
        out_is = line ∙ rw (far.out_is, faults, more, room) (append_assoc old _ _);
        tally_is = count ∙ rw far.tally_is (sym (tally_more form protocol shape far.rows f (n + 1) (omega (arith, far.count))));
      }

  -- these were all
  pub looked_all : {a : Reader R} (b : Reader R) (f : Fields) {out : List ℕ} {tally : Tally} {n : ℕ}
      → reader_config a ≡ default_config → ReadRecord rem a b false f → Looked form most protocol shape lines xs rem a old out tally n
      → (tally ≡ tally_of form protocol shape (records default_config xs))
      × (out ≡ old ++ first_lines form most protocol shape lines (records default_config xs))
  looked_all {a} b f config read far =
      let none = rows-end rem a b f default_config far.ys config far.at read in
      let all : records default_config xs ≡ far.rows = far.all ∙ rw (records-ended default_config _ (reader_state a) far.ys none) (append-nil far.rows) in
      (rw all far.tally_is, rw all far.out_is)
