-- A refusal with its layer and its place.
use Rattle.std.specs.Prelude.{ℕ, Bool, cond, Some, None, Ok, Err, Option, Result}
use Rattle.terms.specs.declared.words.Currency.{Currency}
use Rattle.terms.specs.declared.words.Refusal.{Refusal}
use Rattle.terms.specs.declared.words.Layer.{Layer}
use Rattle.terms.specs.declared.words.Label.{Label}
use Rattle.terms.specs.declared.codes.Code.{Code}
use Rattle.terms.specs.declared.names.Name.{Name}
use Rattle.terms.specs.declared.faults.Place.{Place}
use Rattle.terms.specs.declared.faults.Fault.{Fault}

-- nothing is named
abbrev pub nowhere : Place
nowhere = record { line = None; account = None; class = None; currency = None; label = None }

abbrev pub refused : Refusal → Layer → Fault
refused e l = record { refusal = e; layer = l; place = nowhere }

-- the same fault, with one part of its place named
abbrev pub with_line : ℕ → Fault → Fault
with_line n f = record { refusal = f.refusal; layer = f.layer; place = record { line = Some n; account = f.place.account; class = f.place.class; currency = f.place.currency; label = f.place.label } }

abbrev pub with_account : Name → Fault → Fault
with_account n f = record { refusal = f.refusal; layer = f.layer; place = record { line = f.place.line; account = Some n; class = f.place.class; currency = f.place.currency; label = f.place.label } }

abbrev pub with_class : Code → Fault → Fault
with_class c f = record { refusal = f.refusal; layer = f.layer; place = record { line = f.place.line; account = f.place.account; class = Some c; currency = f.place.currency; label = f.place.label } }

abbrev pub with_currency : Currency → Fault → Fault
with_currency c f = record { refusal = f.refusal; layer = f.layer; place = record { line = f.place.line; account = f.place.account; class = f.place.class; currency = Some c; label = f.place.label } }

abbrev pub with_label : Label → Fault → Fault
with_label l f = record { refusal = f.refusal; layer = f.layer; place = record { line = f.place.line; account = f.place.account; class = f.place.class; currency = f.place.currency; label = Some l } }

-- the fault of a call that may refuse, if it did
abbrev pub refusal : {X : Type 0} → Result X Fault → Option Fault
refusal (Ok x) = None
refusal (Err e) = Some e

-- a test that has to pass: its fault where it does not, else what the later tests say
abbrev pub unless : Bool → Fault → Option Fault → Option Fault
unless b e o = cond b o (Some e)
