use Rattle.std.proofs.Common.{◌≡◌, Some, option_map, sym, ◌∙◌, rules}
use Rattle.lines.proofs.Justified.{blank_read, some_read}
use Rattle.lines.proofs.columns.Field.number_or_blank.Goals as goal

pub returns-then-blanks-self : goal.returns-then-blanks-self
returns-then-blanks-self c = blank_read c.args.self.bytes.now (sym c.blanks.ensures.value ∙ c.if-blanks-self.true)

pub returns : goal.returns
returns c =
    let e : c.map.result ≡ option_map Some c.number.result = search rules in
    rw e (some_read c.args.self.bytes.now (λ q. c.if-blanks-self.false (c.blanks.ensures.value ∙ q)) c.number.result c.number.ensures)
