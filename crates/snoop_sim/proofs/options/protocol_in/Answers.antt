use Rattle.std.proofs.{Common.{◌≡◌, rules, refl, ap, sym, if◌then◌else◌, true, false, Some, None, map, codes}, lemmas.{Bool.false_from_ne_true, Slice.Eq.bytes_eq-Decides}}
use Rattle.std.specs.{Char.to_ascii_lowercase, Str.bytes_eq}
use Rattle.clap.specs.Words.{found_of}
use Rattle.snoop_trace.specs.declared.protocol.Protocol.TheVariants.{Msi, Mesi}
use Rattle.snoop_sim.proofs.OptionLemmas.{said}
use Rattle.snoop_sim.proofs.options.protocol_in.Goals as goal

pub returns-in-Some : goal.returns-in-Some
returns-in-Some c =
    let same : map to_ascii_lowercase c.in-Some.name.now ≡ map to_ascii_lowercase (codes "mesi") = search rules in
    ap (λ mesi. if mesi then Mesi else Msi)
    (said true (found_of c.args.options.now) (codes "protocol") (codes "mesi") (Some c.in-Some.name.now) true (search rules) (sym ((bytes_eq-Decides _ _).1 same)))

pub returns-in_default : goal.returns-in_default
returns-in_default c =
    let other : map to_ascii_lowercase c.in-Some.name.now ≡ map to_ascii_lowercase (codes "mesi") → ⊥ = search rules in
    let unequal = false_from_ne_true (bytes_eq (map to_ascii_lowercase c.in-Some.name.now) (map to_ascii_lowercase (codes "mesi"))) (λ is. other ((bytes_eq-Decides _ _).0 is)) in
    ap (λ mesi. if mesi then Mesi else Msi) (said true (found_of c.args.options.now) (codes "protocol") (codes "mesi") (Some c.in-Some.name.now) false (search rules) (sym unequal))

pub returns-in_default-2 : goal.returns-in_default-2
returns-in_default-2 c = ap (λ mesi. if mesi then Mesi else Msi) (said true (found_of c.args.options.now) (codes "protocol") (codes "mesi") None false (search rules) refl)
