pub mod Fences
pub mod Paragraph
pub mod Reader
pub mod Leaf
pub mod RuleLaws
pub mod FenceLaws
pub mod ParagraphLaws
pub mod LeafLaws
