-- What the options of a command are read as.
use Rattle.std.{proofs.Common.{◌≡◌, ◌∙◌, ◌^◌, ap, sym, refl, ℕ, Bool, false, List, Option, Some, None}, specs.Option.{option_map, option_map_or}}
use Rattle.std.specs.{Prelude.{Result, Ok, Err, is_some}, Str.Parse.ParsesUnsigned, Result.OkIff}
use Rattle.clap.specs.{Words.{ReadsOne, first_of, first_value, one_of, one_text, rows_of, same_text}, declared.parser.matches.Found.Found}
use Rattle.clap.proofs.WalkLemmas.{first_value-rows, one_text-rows}
use Rattle.snoop_trace.specs.Extent.{Extent, IsBlockCount, IsBlockSize, IsCoreCount, IsWordCount}
use Rattle.snoop_trace.specs.declared.shape.ShapeFault.{ShapeFault, TheVariants.{BadCores, BadBlocks, BadBytes, BadWords}}
use Rattle.snoop_sim.specs.Options.{IsReadAs, IsShape, says}

-- the option has a value, which is compared, or it has none
pub said : (ignore_case : Bool) (f : Found) (name value : List ℕ) (text : Option (List ℕ)) (same : Bool) → first_value f name ≡ text
    → same ≡ option_map_or (λ text. same_text ignore_case text value) text false → same ≡ says ignore_case name value (rows_of f)
said ignore_case f name value text same found is = rw (sym (first_value-rows f name) ∙ found) is

-- an option is given where a value of it is read
pub given : {A : Type 0} (f : Found) (name : List ℕ) (text : A → List ℕ) (read : Option A) → option_map text read ≡ first_value f name
    → is_some read ≡ is_some (first_of name (rows_of f))
given {A} f name text read is = mapped read ∙ ap is_some (is ∙ first_value-rows f name)
  where
    mapped : (r : Option A) → is_some r ≡ is_some (option_map text r)
    mapped None = refl
    mapped (Some x) = refl

-- a number that is read by `get_one`
pub number_read : {E : Type 0} (f : Found) (bits : ℕ) (name : List ℕ) (gives : List ℕ → Result ℕ E → Type 0) (read : Option ℕ)
    → (one_text f name ≡ None → read ≡ None) → ((text : List ℕ) → one_text f name ≡ Some text → ReadsOne gives text read)
    → ((text : List ℕ) (parsed : Result ℕ E) → gives text parsed → ParsesUnsigned bits 10 text parsed) → IsReadAs (2 ^ bits) (one_of name (rows_of f)) read
number_read {E} f bits name gives read none some parses = rw (← one_text-rows f name) (go (one_text f name) refl)
  where
    parsed : (text : List ℕ) (answer : Option ℕ) → ReadsOne gives text answer → IsReadAs (2 ^ bits) (Some text) answer
    parsed text None (e, g) = parses text (Err e) g
    parsed text (Some n) g = parses text (Ok n) g

    go : (text : Option (List ℕ)) → one_text f name ≡ text → IsReadAs (2 ^ bits) text read
    go None e = none e
    go (Some text) e = parsed text read (some text e)

-- what is made of four numbers is their shape, or the first limit that is broken
pub shape_named : (cores blocks bytes words : ℕ) (made : Result Extent ShapeFault)
    → OkIff made (IsCoreCount cores × IsBlockCount blocks × IsBlockSize bytes × IsWordCount words bytes) (record { cores = cores; blocks = blocks; block_bytes = bytes; words = words })
    → (made ≡ Err BadCores → ¬ IsCoreCount cores) → (made ≡ Err BadBlocks → IsCoreCount cores × ¬ IsBlockCount blocks)
    → (made ≡ Err BadBytes → IsCoreCount cores × IsBlockCount blocks × ¬ IsBlockSize bytes)
    → (made ≡ Err BadWords → IsCoreCount cores × IsBlockCount blocks × IsBlockSize bytes × ¬ IsWordCount words bytes) → IsShape cores blocks bytes words made
shape_named cores blocks bytes words (Ok shape) ok a b c d =
    (ok.1, rw ok.1 (record { cores = ok.0.0; blocks = ok.0.1; block_bytes = ok.0.2; words = ok.0.3 }))
shape_named cores blocks bytes words (Err BadCores) ok a b c d = a refl
shape_named cores blocks bytes words (Err BadBlocks) ok a b c d = b refl
shape_named cores blocks bytes words (Err BadBytes) ok a b c d = c refl
shape_named cores blocks bytes words (Err BadWords) ok a b c d = d refl
