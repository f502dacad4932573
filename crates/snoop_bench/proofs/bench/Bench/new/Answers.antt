use Rattle.snoop_bench.proofs.{Common.{ap, None, Recording, replicate, reset, rules, ◌∙◌, ◌≡◌}, Turning.reset_under_way}
use Rattle.snoop_bench.proofs.bench.Bench.new.Goals as goal

pub invariant_of-result : goal.invariant_of-result
invariant_of-result c =
    let works : c.in_ok-works.works.items ≡ replicate c.args.shape.cores None =
    c.in_ok-works.ensures.items_if_clones_equal (λ y h. search (rules, h)) ∙ ap (λ n. replicate n None) c.cores.ensures.value in
    let situation : c.in_ok-recorder.recorder.situation ≡ reset c.args.protocol c.args.shape = ap (λ (r : Recording). r.situation) c.in_ok-recorder.ensures in
    rw (works, situation) (reset_under_way c.turns_are_served.ensures c.args.protocol c.args.shape)
