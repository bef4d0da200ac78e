use Rattle.std.proofs.Common.{◌≡◌, ap, refl, sym, subst}
use Rattle.sheet.specs.Given.{Terms, class_at}
use Rattle.sheet.specs.Rows.{beside}
use Rattle.account.specs.Pieces.{margined_counts}
use Rattle.book.specs.Pool.{Counted, counts_in}
use Rattle.book.specs.View.{view}
use Rattle.book.proofs.Joining.{counted, class_counts_fit}
use Rattle.book.proofs.books.Book.join_account.Goals as goal

pub invariant_of-own : goal.invariant_of-own
invariant_of-own g c =
    let s = view c.args.self.now in
    let longs = c.counts-longs in
    let shorts = c.counts-shorts in
    let there = c.requires.open in
    record {
      fits_class = class_counts_fit (class_at s.classes c.args.i).code s.series c.span-span.result.from c.span-span.result.to c.args.row.basis longs.result.now shorts.result.now
          c.span-span.ensures.value (longs.ensures.all there) (shorts.ensures.all there) (λ k. (longs.ensures.bound k, shorts.ensures.bound k))
          c.margin_counts.new.counts c.class-class.result.series.now c.margin_counts.ensures.after (ap (λ (t : Terms). t.rows) c.class-class.ensures.value);
    }

pub returns-clause-counts : goal.returns-clause-counts
returns-clause-counts g c =
    let s = view c.args.self.now in
    let k = class_at s.classes c.args.i in
    let longs = c.counts-longs in
    let shorts = c.counts-shorts in
    let there = c.requires.open in
    let is : counts_in s k c.args.row ≡ beside k.code s.series (margined_counts c.args.row.basis longs.result.now shorts.result.now) = rw (longs.ensures.value, shorts.ensures.value) refl in
    subst (Counted k.code s.series) (sym is)
    (counted k.code s.series c.span-span.result.from c.span-span.result.to c.args.row.basis longs.result.now shorts.result.now
    c.span-span.ensures.value (longs.ensures.all there) (shorts.ensures.all there) (λ k. (longs.ensures.bound k, shorts.ensures.bound k)))
