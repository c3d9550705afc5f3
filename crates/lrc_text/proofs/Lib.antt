pub mod DigitLemmas
pub mod PairLemmas
pub mod CutLemmas
pub mod FieldLemmas
pub mod TableLemmas
pub mod MaskLemmas
pub mod WholeTexts
pub mod Rows
mod RowsOfPlacing
mod RowsOfNodes
mod RowsOfLeases
mod RowsOfLeaseRefusals
mod RowsOfTerms
mod RowsOfRepair
mod RowsOfDraining
mod RowsOfUpgrades
mod RowsOfHistories
mod RowsOfTables
mod RowsOfNarrow
