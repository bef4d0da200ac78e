-- The laws of the written form.
use Rattle.std.proofs.Common.{◌≡◌, ℕ, List, drop, Some, refl, sym, arith}
use Rattle.std.proofs.lemmas.List.{take_at}
use Rattle.terms.specs.declared.words.Basis.{Basis}
use Rattle.terms.specs.declared.words.Side.{Side}
use Rattle.terms.specs.Names.{named}
use Rattle.lines.specs.Columns.{Is, laid, left}
use Rattle.lines.specs.Laws.{OneRecord, OneAccount, name_columns}
use Rattle.lines.specs.Records.{Entry, Sound, written, letter, body, fields, class, account, rate, series, array, end, post, close_out, move, deposit}
use Rattle.lines.proofs.Fronts.{number_front, or_blank_front, name_front, code_front, key_front, basis_front, leg_front, side_front}
use Rattle.lines.proofs.Rows.{array_is}
use Rattle.lines.proofs.Trims.{wide}

-- what follows the first fields of a line
abbrev behind : ℕ → Entry → List ℕ
behind n e = laid (drop n (fields e))

same : (a b : Entry) → Sound a → Sound b → written a ≡ written b → a ≡ b
same (class c k s m) b f g e =
    let a = class c k s m in
    let code = code_front c (behind 1 a) f.0 in
    let currency = code_front k (behind 2 a) f.1 in
    let spread = or_blank_front 6 s (behind 3 a) f.2 in
    let minimum = number_front 7 m (behind 4 a) f.3 in
    grind arith
same (series k p n d) b f g e =
    let a = series k p n d in
    let key = key_front k (behind 4 a) f.0 in
    let price = number_front 8 p (behind 5 a) f.1 in
    let shares = number_front 5 n (behind 6 a) f.2 in
    let delta = number_front 4 d (behind 7 a) f.3 in
    grind arith
same (array zs) b f g e =
    let l : letter b ≡ 82 = cc e in
    let r : body (array zs) ≡ body b = cc e in
    sym ((array_is zs f).only b (g, l) r)
same (rate c r) b f g e =
    let a = rate c r in
    let currency = code_front c (behind 1 a) f.0 in
    let figure = number_front 6 r (behind 2 a) f.1 in
    grind arith
same end b f g e = grind arith
same (account t b s) d f g e =
    let a = account t b s in
    let name = name_front t (behind 1 a) f in
    let basis = basis_front b (behind 2 a) in
    let side = side_front s (behind 3 a) in
    grind arith
same (post t k l n) b f g e =
    let a = post t k l n in
    let name = name_front t (behind 1 a) f.0 in
    let key = key_front k (behind 5 a) f.1 in
    let leg = leg_front l (behind 6 a) in
    let contracts = number_front 6 n (behind 7 a) f.2 in
    grind arith
same (close_out t k n) b f g e =
    let a = close_out t k n in
    let name = name_front t (behind 1 a) f.0 in
    let key = key_front k (behind 5 a) f.1 in
    let contracts = number_front 6 n (behind 6 a) f.2 in
    grind arith
same (move t u k l n) b f g e =
    let a = move t u k l n in
    let from = name_front t (behind 1 a) f.0 in
    let to = name_front u (behind 2 a) f.1 in
    let key = key_front k (behind 6 a) f.2 in
    let leg = leg_front l (behind 7 a) in
    let contracts = number_front 6 n (behind 8 a) f.3 in
    grind arith
same (deposit s c z) b f g e =
    let a = deposit s c z in
    let side = side_front s (behind 1 a) in
    let currency = code_front c (behind 2 a) f.0 in
    let cents = number_front 13 z (behind 3 a) f.1 in
    grind arith

pub one_record : OneRecord
one_record = record { same = same }

name : (l t : List ℕ) (b : Basis) (s : Side) → Is written Sound l (account t b s) → named t ≡ Some (record { text = name_columns l })
name l t b s p = rw (p.fit, p.reads, take_at (left 20 t) (behind 1 (account t b s)) 20 (wide t p.fit)) refl

pub one_account : OneAccount
one_account = record {
  name = name;
  same = λ l m t u b c s d p q. let n = name l t b s p in let o = name m u c d q in (λ e. grind arith, λ e. grind arith);
}
