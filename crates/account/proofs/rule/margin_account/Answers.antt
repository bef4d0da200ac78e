use Rattle.std.proofs.Common.{◌≡◌, ◌≤◌, length, pos, Ok, ap, ◌∙◌, w64, SFits, rules}
use Rattle.std.proofs.lemmas.List.{length-replicate, take-replicate}
use Rattle.std.proofs.lemmas.Int.{to_z-of_z}
use Rattle.account.specs.Outcomes.{and_then, left_in}
use Rattle.account.specs.Rule.{report_of}
use Rattle.account.proofs.Reports.{report_is, padded}
use Rattle.account.proofs.rule.margin_account.Goals as goal

pub returns : goal.returns
returns g c =
    let sheet = c.args.account.now.sheet in
    let totals = c.in_ok-totals.totals in
    let given = c.in_ok-totals.ensures.rates in
    let o = c.offset-requirement.ensures in
    let zs = c.tally.new.figures in
    let n = c.class_count-classes.result in
    let few : n ≤ 16 = c.class_count-classes.ensures.bound in
    let long : length zs ≡ n = c.tally.auto.figures ∙ ap length (take-replicate n 16 (pos 0) few) ∙ length-replicate n (pos 0) in
    let f : SFits w64 c.value.result = search rules in
    let e =
    report_is _ totals.sums _ c.offset-requirement.result.owed _ zs totals.rates (padded 16 n zs long) (to_z-of_z w64 _ f ∙ c.value.ensures.value) o.owed o.requirement
    ∙ ap (report_of zs totals.sums) given in
    let t = ap (λ r. and_then r (λ t. Ok (report_of t.figures t.sums sheet.rates.by_number))) c.in_ok-totals.ensures.answer in
    record {
      answer = ap Ok e ∙ t;
      after = e ∙ ap (λ r. left_in r c.args.report.now) t;
      law = search rules;
      owed = c.offset-requirement.result.modest;
      bound = c.offset-requirement.result.bound;
    }
