-- The names that proofs of this crate use most, passed on from one place.
pub use Rattle.csv.{proofs.WriteFacts.slice-end, specs.{Records.fields_of, declared.parser.State.State}}
pub use Rattle.snoop_trace.specs.{Extent.{Extent, IsWithinLimits}, Output.{AppendsFront, Gathers, IsReadableStep, Spills, address_of}}
pub use Rattle.snoop_trace.specs.{Output.{step_text, steps_text, text_of, word_address}, Progress.records_left}
pub use Rattle.snoop_trace.specs.{Records.{IsReady, record_writer}, Words.HasWord, declared.{fault.TextFault.TextFault, record.Heading.Heading, step.Row.Row}}
pub use Rattle.snoop_trace.specs.declared.step.{Op.TheVariants.{Evict, Load, Store}, Step.Step}
pub use Rattle.std.proofs.lemmas.Bool.{and_right, cases_Bool, cases_lt, false_from_ne_true, lt-ltb, Decides.nat_tests}
pub use Rattle.std.proofs.lemmas.{Fmt.{decimal_is_IsNumeral, length-decimal-le}, List.{append-nil, length-append, length-drop, take-append-drop}}
pub use Rattle.std.{proofs.lemmas.List.Elements.{All-cons, All-head, All-nil, All-push, All-tail, recursion_from_All}, specs.Fmt.decimal}
pub use Rattle.std.proofs.lemmas.{Nat.{div-mul-add, mul-le, pow-add, pow_pos}, Result.{err_from_is_err_and, on_err_weaker, on_ok_weaker}}
pub use Rattle.std.specs.{Char.{digit_value, is_digit}, Io.KnownBytes.{Appends, Keeps}, Str.Parse.{AllDigits, digits_value, digits_value_after}}
