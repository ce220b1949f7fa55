-- Going deeper, an ending stays and printed records only come on.
use Rattle.std.proofs.Common.{◌≡◌, zero, suc, ◌+◌, [], ◌++◌, Option, Some, None, sym, ap, ◌∙◌, subst, append-nil, append_assoc}
use Rattle.model.specs.declared.run.Ending.{Ending}
use Rattle.model.specs.Language.Programs.{Program, program}
use Rattle.model.specs.Language.Values.{printed_of}
use Rattle.model.specs.Language.Meaning.{W, Res, Done, Fails, Ends, Open, Settled, run_rule, run, meaning}
use Rattle.model.specs.Laws.Agreement.{Records, IsPrefix, seen_of, first_w, meaning_at, EndingStays, PrintedGrows}
use Rattle.model.proofs.Language.MeaningGrows.{before_refl, Goes_on, Later, later, Grows, same, open_to, grows, follow_grows, follow_stays, zero_and, suc_and}
use Rattle.model.proofs.Language.MeaningPrints.{on}

pub settled_of : (r : Res (record {})) (e : Ending) → (seen_of r).ending ≡ Some e → Settled r
settled_of (Done a w) e h = tt
settled_of (Fails w) e h = tt
settled_of (Ends f w) e h = tt
settled_of (Open w) e h = subst IsNone h tt
  where
    IsNone : Option Ending → Type 0
    IsNone None = Unit {0}
    IsNone (Some e) = ⊥

pub run_on : (prog : Program) (w : W) → Goes_on w (run_rule prog w)
run_on prog w = (before_refl w, (λ l v b. before_refl v), (λ v b. before_refl v))

pub ending_stays : EndingStays
ending_stays deck inputs n e h d =
    let w = first_w inputs in
    let prog = program deck in
    ap seen_of (follow_stays prog (on prog) n d w (run_rule prog w) (run_on prog w) (settled_of (run prog n w) e h))

later_printed : (w : W) (r : Res (record {})) → Later w r → IsPrefix (printed_of w) (seen_of r).printed
later_printed v (Done a w) b = (b.new, b.is)
later_printed v (Fails w) b = (b.new, b.is)
later_printed v (Ends e w) b = (b.new, b.is)
later_printed v (Open w) b = (b.new, b.is)

grows_printed : {r s : Res (record {})} → Grows r s → IsPrefix (seen_of r).printed (seen_of s).printed
grows_printed {r} same = ([], sym (append-nil (seen_of r).printed))
grows_printed (open_to {w = w} {r = r} l) = later_printed w r l

beginning_on : (a b c : Records) → IsPrefix a b → IsPrefix b c → IsPrefix a c
beginning_on a b c (m, h) (n, k) = (m ++ n, k ∙ ap (λ l. l ++ n) h ∙ append_assoc a m n)

pub printed_grows : PrintedGrows
printed_grows deck inputs n zero = let e = zero_and n in subst (λ k. IsPrefix (meaning_at n deck inputs).printed (meaning_at k deck inputs).printed) (sym e) (grows_printed (same {r = run (program deck) n (first_w inputs)}))
printed_grows deck inputs n (suc d) =
    let w = first_w inputs in
    let prog = program deck in
    subst (λ k. IsPrefix (meaning_at n deck inputs).printed (meaning_at k deck inputs).printed) (sym (suc_and d n))
    (beginning_on _ _ _ (printed_grows deck inputs n d)
    (grows_printed (follow_grows (suc (d + n)) (λ r u. meaning prog (d + n) r u) (λ r u. meaning prog (suc (d + n)) r u) (grows prog (on prog) (d + n)) (later prog (on prog) (suc (d + n))) w (run_rule prog w) (run_on prog w))))
