-- What is written is read again.
use Rattle.std.proofs.{Common.{◌≡◌, ◌<◌, ℕ, ◌+◌, ◌^◌, List, [], ◌∷◌, ◌++◌, length, Some, true, false, refl, arith, append_assoc}, Math.Nat.mul-div_cancel}
use Rattle.std.specs.{Prelude.{fold, nat_eq, codes, Ok, Err, map}, List.{All, AllByRecursion, flat_map, list_all, list_any, starts_with}}
use Rattle.snoop_trace.proofs.Common.{AllDigits, Evict, Extent, Heading, IsReadableStep, IsWithinLimits, Load, Step, Store, address_of, and_right}
use Rattle.snoop_trace.proofs.Common.{decimal, decimal_is_IsNumeral, digit_value, digits_value, false_from_ne_true, is_digit, lt-ltb, mul-le, nat_tests}
use Rattle.snoop_trace.proofs.{Common.{record_writer, records_left, recursion_from_All, step_text, steps_text, text_of, word_address}, PowerLemmas.power_some}
use Rattle.std.proofs.lemmas.Str.Parse.{digit_from_value}
use Rattle.csv.specs.{Writing.{default_writer, escaped, needs_byte, row_text, fields_text}, Machine.next_record, Reading.{default_config, strip_bom}}
use Rattle.csv.{proofs.RoundTrip.read-write, specs.Writing.{is_blank, read_back}}
use Rattle.snoop_trace.specs.{Grammar.{ask, row_by_letter, block_in, number, numeral, order, respond, step_in, store, without_value}, Protocol.protocol_name}
use Rattle.snoop_trace.specs.Heading.{heading_as, heading_for, heading_in, heading_text, protocol_named, same_heading, same_protocol, version_in}
use Rattle.snoop_trace.specs.{Text.{entries_from, entries_in, records_of, steps_of}, declared.fault.TextFault.TheVariants.OtherShape}
use Rattle.snoop_trace.specs.declared.{protocol.Protocol.{Protocol, TheVariants.{Msi, Mesi}}, step.Step.TheVariants.{Ask, Order, Respond}}
use Rattle.snoop_trace.proofs.{CsvLemmas.{records-ended, records_step}, WordPlaces.{address_back, address_before}}
use Rattle.csv.specs.declared.parser.State.TheVariants as st

-- no digit calls for quotes
digit_plain : (c : ℕ) → digit_value c < 10 → needs_byte default_writer c ≡ false
digit_plain c h = let r = digit_from_value c h in grind (arith, nat_tests)

-- digits need no quotes, and each is a digit of base 10
digits_read : (ds : List ℕ) → AllDigits 10 ds → (list_any (needs_byte default_writer) ds ≡ false) × (list_all (λ c. is_digit c 10) ds ≡ true)
digits_read [] h = (refl, refl)
digits_read (c ∷ ds) h = let rest = digits_read ds h.1 in (rw (digit_plain c h.0, rest.0) refl, rw (lt-ltb (digit_value c) 10 h.0, rest.1) refl)

-- no decimal number begins with 0x
no_hex : (ds : List ℕ) → AllDigits 10 ds → starts_with nat_eq ds (codes "0x") ≡ false
no_hex [] h = refl
no_hex (c ∷ []) h = and_right (nat_eq 48 c) false refl
no_hex (c ∷ d ∷ ds) h = let r = digit_from_value d h.1.0 in grind (arith, nat_tests)

numeral_digits : (ds : List ℕ) (n : ℕ) → 0 < length ds → AllDigits 10 ds → digits_value 10 ds ≡ n → n < 2 ^ 64 → numeral 10 ds ≡ Some n
numeral_digits [] n some h v small = absurd (omega arith)
numeral_digits (d ∷ ds) n some h v small = rw ((digits_read (d ∷ ds) h).1, v, lt-ltb n (2 ^ 64) small) refl

number_decimal : (n : ℕ) → n < 2 ^ 64 → number (decimal n) ≡ Some n
unfolding number
number_decimal n h =
    let (digits, value) = decimal_is_IsNumeral n h in
    rw (no_hex (decimal n) digits.1) (numeral_digits (decimal n) n digits.0 digits.1 value h)

plain : (n : ℕ) → n < 2 ^ 64 → list_any (needs_byte default_writer) (decimal n) ≡ false
plain n h = (digits_read (decimal n) (decimal_is_IsNumeral n h).0.1).0

-- where the commas stand: in a row's text on the left, in a step's or a heading's on the right
commas : (text : List ℕ) (fields : List (List ℕ))
    → text ++ (flat_map (λ f. 44 ∷ f) fields ++ (10 ∷ [])) ≡ fold (λ t f. (t ++ (44 ∷ [])) ++ f) text fields ++ (10 ∷ [])
commas text [] = refl
commas text (f ∷ fs) = let next = commas ((text ++ (44 ∷ [])) ++ f) fs in rw (← next) (simp append_assoc)

-- what csv writes of a record with a letter and so many numbers
module _ (letter a : ℕ) (e : needs_byte default_writer letter ≡ false) (h : a < 2 ^ 64) where
  pub one_written : row_text record_writer ((letter ∷ []) ∷ decimal a ∷ []) ≡ ((letter ∷ 44 ∷ []) ++ decimal a) ++ (10 ∷ [])
  unfolding fields_text is_blank
  one_written = rw (e, plain a h) (commas (letter ∷ []) (decimal a ∷ []))

  pub two_written : (b : ℕ) → b < 2 ^ 64 → row_text record_writer ((letter ∷ []) ∷ decimal a ∷ decimal b ∷ []) ≡ (((letter ∷ 44 ∷ []) ++ decimal a ++ (44 ∷ [])) ++ decimal b) ++ (10 ∷ [])
  unfolding fields_text is_blank
  two_written b i = rw (e, plain a h, plain b i) (commas (letter ∷ []) (decimal a ∷ decimal b ∷ []))

  pub three_written : (b c : ℕ) → b < 2 ^ 64 → c < 2 ^ 64
      → row_text record_writer ((letter ∷ []) ∷ decimal a ∷ decimal b ∷ decimal c ∷ []) ≡ (((((letter ∷ 44 ∷ []) ++ decimal a ++ (44 ∷ [])) ++ decimal b) ++ (44 ∷ [])) ++ decimal c) ++ (10 ∷ [])
  unfolding fields_text is_blank
  three_written b c i j = rw (e, plain a h, plain b i, plain c j) (commas (letter ∷ []) (decimal a ∷ decimal b ∷ decimal c ∷ []))

-- the fields of a step
abbrev row_of : Extent → Step → List (List ℕ)
row_of shape (Ask core block word Load) = codes "L" ∷ decimal core ∷ decimal (word_address shape block word) ∷ []
row_of shape (Ask core block word (Store value)) = codes "S" ∷ decimal core ∷ decimal (word_address shape block word) ∷ decimal value ∷ []
row_of shape (Ask core block word Evict) = codes "E" ∷ decimal core ∷ decimal (address_of shape block) ∷ []
row_of shape (Order core) = codes "O" ∷ decimal core ∷ []
row_of shape (Respond block) = codes "R" ∷ decimal (address_of shape block) ∷ []

some_row : (shape : Extent) (s : Step) → read_back (row_of shape s) ≡ row_of shape s
some_row shape (Ask core block word Evict) = refl
some_row shape s = refl

-- the fields of a heading
abbrev heading_row : Heading → List (List ℕ)
heading_row h = codes "V" ∷ codes "2" ∷ protocol_name h.protocol ∷ decimal h.cores ∷ decimal h.blocks ∷ decimal h.block_bytes ∷ decimal h.words ∷ []

protocol_read : (protocol : Protocol) → (list_any (needs_byte default_writer) (protocol_name protocol) ≡ false) × (protocol_named (protocol_name protocol) ≡ Some protocol)
unfolding protocol_named
protocol_read Msi = (refl, refl)
protocol_read Mesi = (refl, refl)

-- a line that csv wrote is read as its fields
line_read : (row : List (List ℕ)) (line rest : List ℕ) → row_text default_writer row ≡ line → read_back row ≡ row
    → records_left st.StartRecord (line ++ rest) ≡ row ∷ records_left st.StartRecord rest
line_read row line rest is same = records_step default_config st.StartRecord (line ++ rest) (row, st.StartRecord, rest) (rw (is, same) at (read-write row rest))

module _ (shape : Extent) (limits : IsWithinLimits shape) where
  core_small : (core : ℕ) → core < shape.cores → core < 2 ^ 64
  core_small core h = omega arith

  address_small : (block : ℕ) → block < shape.blocks → address_of shape block < 2 ^ 64
  address_small block h = let most = mul-le block shape.block_bytes 65536 4096 (omega arith) limits.block_bytes.1 in omega arith

  word_small : (block word : ℕ) → block < shape.blocks → word < shape.words → word_address shape block word < 2 ^ 64
  word_small block word h inside =
      let most = mul-le (block + 1) shape.block_bytes 65536 4096 (omega (arith, limits.blocks.1)) limits.block_bytes.1 in
      omega (arith, address_before shape limits block word inside)

  line_row : (s : Step) → IsReadableStep shape s → row_text default_writer (row_of shape s) ≡ step_text shape s ++ codes "\n"
  unfolding fields_text is_blank escaped
  line_row (Ask core block word Load) h = two_written 76 core refl (core_small core h.0) _ (word_small block word h.1 h.2)
  line_row (Ask core block word (Store value)) h = three_written 83 core refl (core_small core h.0) _ value (word_small block word h.1 h.2) h.3
  line_row (Ask core block word Evict) h = two_written 69 core refl (core_small core h.0) _ (address_small block h.1)
  line_row (Order core) h = one_written 79 core refl (core_small core h)
  line_row (Respond block) h = one_written 82 _ refl (address_small block h)

  block_back : (n block : ℕ) → block < shape.blocks → block_in shape n (address_of shape block) ≡ Ok block
  block_back n block h = rw (mul-div_cancel block (power_some shape.block_bytes limits.block_bytes.0), lt-ltb block shape.blocks h) refl

  word_block_back : (n block word : ℕ) → block < shape.blocks → word < shape.words → block_in shape n (word_address shape block word) ≡ Ok block
  word_block_back n block word h inside = rw ((address_back shape limits block word inside).0, lt-ltb block shape.blocks h) refl

  step_back : (n : ℕ) (s : Step) → IsReadableStep shape s → step_in shape n (row_of shape s) ≡ Ok s
  unfolding step_in ask row_by_letter without_value store order respond
  step_back n (Ask core block word Load) h =
      rw (number_decimal core (core_small core h.0), number_decimal _ (word_small block word h.1 h.2), lt-ltb core shape.cores h.0, word_block_back n block word h.1 h.2, (address_back shape limits block word h.2).1) refl
  step_back n (Ask core block word (Store value)) h =
      rw (number_decimal core (core_small core h.0), number_decimal _ (word_small block word h.1 h.2), number_decimal value h.3, lt-ltb core shape.cores h.0, word_block_back n block word h.1 h.2, (address_back shape limits block word h.2).1) refl
  step_back n (Ask core block word Evict) h =
      rw (number_decimal core (core_small core h.0), number_decimal _ (address_small block h.1), lt-ltb core shape.cores h.0, block_back n block h.1, h.2) refl
  step_back n (Order core) h = rw (number_decimal core (core_small core h), lt-ltb core shape.cores h) refl
  step_back n (Respond block) h = rw (number_decimal _ (address_small block h), block_back n block h) refl

  steps_back : (n : ℕ) (steps : List Step) → AllByRecursion (IsReadableStep shape) steps → entries_from (step_in shape) n (map (row_of shape) steps) ≡ Ok steps
  unfolding entries_from
  steps_back n [] h = refl
  steps_back n (s ∷ steps) h = rw (step_back n s h.0, steps_back (n + 1) steps h.1) refl

  -- the lines of steps are read as the steps' fields
  steps_rows : (steps : List Step) → AllByRecursion (IsReadableStep shape) steps → records_left st.StartRecord (steps_text shape steps) ≡ map (row_of shape) steps
  unfolding next_record
  steps_rows [] h = records-ended default_config _ st.StartRecord [] refl
  steps_rows (s ∷ steps) h = rw (line_read (row_of shape s) _ (steps_text shape steps) (line_row s h.0) (some_row shape s), steps_rows steps h.1) refl

  small : (shape.cores < 2 ^ 64) × (shape.blocks < 2 ^ 64) × (shape.block_bytes < 2 ^ 64) × (shape.words < 2 ^ 64)
  small = omega arith

  -- what csv writes of a heading
  pub heading_written : (protocol : Protocol)
      → row_text record_writer (codes "V" ∷ codes "2" ∷ protocol_name protocol ∷ decimal shape.cores ∷ decimal shape.blocks ∷ decimal shape.block_bytes ∷ decimal shape.words ∷ []) ≡ heading_text (heading_for protocol shape) ++ codes "\n"
  unfolding fields_text is_blank
  heading_written protocol = rw ((protocol_read protocol).0, plain _ small.0, plain _ small.1, plain _ small.2, plain _ small.3) (commas (codes "V") (codes "2" ∷ protocol_name protocol ∷ decimal shape.cores ∷ decimal shape.blocks ∷ decimal shape.block_bytes ∷ decimal shape.words ∷ []))

  -- the record of a heading says it
  heading_back : (protocol : Protocol) (n : ℕ) → heading_in n (heading_row (heading_for protocol shape)) ≡ Ok (heading_for protocol shape)
  unfolding heading_in version_in number
  heading_back protocol n = rw ((protocol_read protocol).1, number_decimal _ small.0, number_decimal _ small.1, number_decimal _ small.2, number_decimal _ small.3) refl

  -- the records of a text of version 2 are the heading's, and then those of its steps
  heading_and_more : (protocol : Protocol) (steps : List Step) → records_of (text_of protocol shape steps) ≡ heading_row (heading_for protocol shape) ∷ records_left st.StartRecord (steps_text shape steps)
  unfolding strip_bom fields_text is_blank escaped
  heading_and_more protocol steps = line_read (heading_row (heading_for protocol shape)) _ (steps_text shape steps) (heading_written protocol) refl

protocol_is : (a b : Protocol) → same_protocol a b ≡ true → b ≡ a
protocol_is Msi Msi h = refl
protocol_is Mesi Mesi h = refl
protocol_is _ _ h = cc

same_as_itself : (heading : Heading) → same_heading heading heading ≡ true
same_as_itself h = grind (arith, nat_tests)

-- headings that say the same are those of the same protocol and shape
heading_is : (protocol other : Protocol) (shape extent : Extent) → same_heading (heading_for protocol shape) (heading_for other extent) ≡ true → (other ≡ protocol) × (extent ≡ shape)
heading_is protocol other shape extent same = grind (arith, nat_tests, protocol_is)

-- steps within the shape are read from their text
pub all_read_again : (protocol : Protocol) (shape : Extent) (steps : List Step) → IsWithinLimits shape → All (IsReadableStep shape) steps
    → steps_of protocol shape (text_of protocol shape steps) ≡ Ok steps
unfolding entries_in heading_as
all_read_again protocol shape steps limits h =
    let each = recursion_from_All (IsReadableStep shape) steps h in
    rw (heading_and_more shape limits protocol steps, steps_rows shape limits steps each, heading_back shape limits protocol 1, same_as_itself (heading_for protocol shape)) (steps_back shape limits 2 steps each)

-- for another protocol or shape they are refused
pub other_refused : (protocol : Protocol) (shape : Extent) (steps : List Step) → IsWithinLimits shape
    → (other : Protocol) (extent : Extent) → ¬ ((other ≡ protocol) × (extent ≡ shape)) → steps_of other extent (text_of protocol shape steps) ≡ Err (OtherShape 1)
unfolding entries_in heading_as
other_refused protocol shape steps limits other extent differ =
    let unlike = false_from_ne_true (same_heading (heading_for protocol shape) (heading_for other extent)) (λ same. differ (heading_is protocol other shape extent same)) in
    rw (heading_and_more shape limits protocol steps, heading_back shape limits protocol 1, unlike) refl
