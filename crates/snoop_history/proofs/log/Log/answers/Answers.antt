use Rattle.std.proofs.{Common.{◌≡◌, ◌∙◌, ap, rules, filter, ◌==◌, List}, lemmas.Iterator.Consumers.{YieldsList-from_filter_map, YieldsList-from_filter}}
use Rattle.snoop_history.proofs.Common.{Did, IfOk-at_ok, Journal, YieldsList-from_slice, answers_of, filter_map, items_from_collect, operation_of, unpacked}
use borrow.Author.Tests.{tests}
use Rattle.snoop_history.proofs.Kept.{filter_map-map}
use Rattle.snoop_history.proofs.log.Log.answers.Goals as goal

pub returns : goal.returns
returns c =
    let l = c.self.inside in
    let dids : c.in_ok-dids.dids.items ≡ filter (λ did. did.core == c.args.core) (filter_map (λ p. operation_of (unpacked p)) l.items.items) =
    IfOk-at_ok (λ w. w.items ≡ filter (λ did. did.core == c.args.core) (filter_map (λ p. operation_of (unpacked p)) l.items.items)) c.in_ok-dids.was
    (items_from_collect c.collect.result c.collect.ensures.ran
    (YieldsList-from_filter _ (λ (did : Did). did.core == c.args.core)
    (YieldsList-from_filter_map _ (λ p. operation_of (unpacked p)) (YieldsList-from_slice l.items.items cc) (cc) (λ x r q k. search rules))
    c.filter.ensures.closure (λ x b q k. search (rules, tests)))) in
    dids ∙ (ap (λ (ds : List Did). filter (λ did. did.core == c.args.core) ds) (filter_map-map unpacked operation_of l.items.items) ∙ ap (λ (j : Journal). answers_of j.items c.args.core) c.self.view_is)
