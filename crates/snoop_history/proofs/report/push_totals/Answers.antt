use Rattle.std.{proofs.{Common.{◌≡◌, ◌++◌, List, ℕ, codes, refl, ap, ◌∙◌, append_assoc}, lemmas.Result.on_ok_weaker}, specs.Fmt.decimal}
use Rattle.snoop_history.{proofs.Common.Totals, specs.Report.{stores_text, requests_text, sources_text, totals_text, writebacks_text}}
use Rattle.snoop_history.proofs.report.push_totals.Goals as goal

-- the names and counts, one after another, are the lines
lines_joined : (t : Totals) (old loads : List ℕ) {p1 p2 p3 p4 p5 p6 p7 p8 p9 p10 p11 p12 new : List ℕ}
    → p1 ≡ old ++ (loads ++ decimal t.loads) → p2 ≡ p1 ++ (codes " hits " ++ decimal t.load_hits)
    → p3 ≡ p2 ++ (codes "\nstores " ++ decimal t.stores) → p4 ≡ p3 ++ (codes " hits " ++ decimal t.store_hits)
    → p5 ≡ p4 ++ (codes "\nGetS " ++ decimal t.get_s) → p6 ≡ p5 ++ (codes " GetM " ++ decimal t.get_m)
    → p7 ≡ p6 ++ (codes " PutM " ++ decimal t.put_m) → p8 ≡ p7 ++ (codes "\nfrom memory " ++ decimal t.from_memory)
    → p9 ≡ p8 ++ (codes " from caches " ++ decimal t.from_caches) → p10 ≡ p9 ++ (codes "\nwritebacks " ++ decimal t.writebacks)
    → p11 ≡ p10 ++ (codes " clean " ++ decimal t.clean) → p12 ≡ p11 ++ (codes " stale " ++ decimal t.stale)
    → new ≡ p12 ++ codes "\n"
    → new ≡ old ++ ((loads ++ decimal t.loads ++ codes " hits " ++ decimal t.load_hits ++ codes "\n") ++ stores_text t ++ requests_text t ++ sources_text t ++ writebacks_text t)
lines_joined t old loads a b c d e f g h i j k l end = rw (end, l, k, j, i, h, g, f, e, d, c, b, a) (simp append_assoc refl)

pub returns : goal.returns
returns c =
    on_ok_weaker c.push_byte.result (λ end. lines_joined c.totals-t.result c.args.out.now.items (codes "loads ")
    c.in_ok-push_numbered.ensures.ok c.in_ok-push_numbered-2.ensures.ok c.in_ok-push_numbered-3.ensures.ok c.in_ok-push_numbered-4.ensures.ok c.in_ok-push_numbered-5.ensures.ok
    c.in_ok-push_numbered-6.ensures.ok c.in_ok-push_numbered-7.ensures.ok c.in_ok-push_numbered-8.ensures.ok c.in_ok-push_numbered-9.ensures.ok
    c.in_ok-push_numbered-10.ensures.ok c.in_ok-push_numbered-11.ensures.ok c.in_ok-push_numbered-12.ensures.ok
    end ∙ ap (λ (t : Totals). c.args.out.now.items ++ totals_text t) c.totals-t.ensures)
    c.push_byte.ensures.ok
